use Rattle.rules_plain.proofs.PlainNeeds.{for_rule3_version}
use Rattle.rules_plain.proofs.rule3_version.Goals as goal

pub returns-then-same : goal.returns-then-same
returns-then-same c = search for_rule3_version

pub returns-else-same : goal.returns-else-same
returns-else-same c = search for_rule3_version
