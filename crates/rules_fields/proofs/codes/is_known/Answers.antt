use Rattle.rules_fields.proofs.LookLaws.{for_known}
use Rattle.rules_fields.proofs.codes.is_known.Goals as goal

pub returns-in-Unknown : goal.returns-in-Unknown
returns-in-Unknown c = search for_known

pub returns-in-InForce : goal.returns-in-InForce
returns-in-InForce c = search for_known

pub returns-in-OutOfForce : goal.returns-in-OutOfForce
returns-in-OutOfForce c = search for_known
