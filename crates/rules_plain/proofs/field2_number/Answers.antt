use Rattle.rules_plain.proofs.PlainNeeds.{for_field2_number}
use Rattle.rules_plain.proofs.field2_number.Goals as goal

pub returns-then-is_number : goal.returns-then-is_number
returns-then-is_number c = search for_field2_number

pub returns-then-r-ne0 : goal.returns-then-r-ne0
returns-then-r-ne0 c = search for_field2_number

pub returns : goal.returns
returns c = search for_field2_number
