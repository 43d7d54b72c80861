use Rattle.rules_plain.proofs.PlainNeeds.{for_rule7_number}
use Rattle.rules_plain.proofs.rule7_number.Goals as goal

pub returns-then-n-place : goal.returns-then-n-place
returns-then-n-place c = search for_rule7_number

pub returns-else-n-place : goal.returns-else-n-place
returns-else-n-place c = search for_rule7_number
