use Rattle.rules_plain.proofs.PlainNeeds.{for_field3_uli}
use Rattle.rules_plain.proofs.field3_uli.Goals as goal

pub returns-then-is_uli : goal.returns-then-is_uli
returns-then-is_uli c = search for_field3_uli

pub returns-then-r-ne0 : goal.returns-then-r-ne0
returns-then-r-ne0 c = search for_field3_uli

pub returns : goal.returns
returns c = search for_field3_uli
