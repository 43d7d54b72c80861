use Rattle.rules_fields.proofs.LookLaws.{for_rules4_and_5_code}
use Rattle.rules_fields.proofs.codes.rules4_and_5_code.Goals as goal

pub returns-in-Unknown : goal.returns-in-Unknown
returns-in-Unknown c = search for_rules4_and_5_code

pub returns-in-InForce : goal.returns-in-InForce
returns-in-InForce c = search for_rules4_and_5_code

pub returns-then-day : goal.returns-then-day
returns-then-day c = search for_rules4_and_5_code

pub returns-else-day : goal.returns-else-day
returns-else-day c = search for_rules4_and_5_code
