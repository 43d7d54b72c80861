use Rattle.rules_forms.proofs.ClassNeeds.{for_run}
use Rattle.rules_forms.proofs.classes.run_in.Goals as goal

pub returns-then-t-lo : goal.returns-then-t-lo
returns-then-t-lo c = search for_run

pub returns-then-hi-t : goal.returns-then-hi-t
returns-then-hi-t c = search for_run

pub returns : goal.returns
returns c = search for_run
