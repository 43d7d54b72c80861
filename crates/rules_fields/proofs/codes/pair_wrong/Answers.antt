use Rattle.rules_fields.proofs.LookLaws.{for_pair}
use Rattle.rules_fields.proofs.codes.pair_wrong.Goals as goal

pub returns-in-Unknown : goal.returns-in-Unknown
returns-in-Unknown c = search for_pair

pub returns-in-InForce : goal.returns-in-InForce
returns-in-InForce c = search for_pair

pub returns-in-OutOfForce : goal.returns-in-OutOfForce
returns-in-OutOfForce c = search for_pair
