use Rattle.rules_lists.proofs.ListNeeds.{for_antigen}
use Rattle.rules_lists.proofs.has_antigen.Goals as goal

pub returns : goal.returns
returns c = search for_antigen
