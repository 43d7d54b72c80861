use Rattle.rules_plain.proofs.PlainNeeds.{for_rule6_uli}
use Rattle.rules_plain.proofs.rule6_uli.Goals as goal

pub returns-then-same : goal.returns-then-same
returns-then-same c = search for_rule6_uli

pub returns-then-is_uli : goal.returns-then-is_uli
returns-then-is_uli c = search for_rule6_uli

pub returns-else-is_uli : goal.returns-else-is_uli
returns-else-is_uli c = search for_rule6_uli
