use Rattle.rules_plain.proofs.PlainNeeds.{for_rule}
use Rattle.rules_plain.proofs.ii15_lot.Goals as goal

pub returns-then-r-ne0 : goal.returns-then-r-ne0
returns-then-r-ne0 c = search for_rule

pub returns : goal.returns
returns c = search for_rule
