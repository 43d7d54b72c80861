use Rattle.chart_records.proofs.FormNeeds.{for_lifted}
use Rattle.chart_records.proofs.form.lifted.Goals as goal

pub returns-then-b-eq124 : goal.returns-then-b-eq124
returns-then-b-eq124 c = search for_lifted

pub returns : goal.returns
returns c = search for_lifted
