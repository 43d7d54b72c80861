use Rattle.ledger.proofs.LookLaws.{for_stands}
use Rattle.ledger.proofs.find.stands.Goals as goal

pub returns : goal.returns
returns c = search for_stands
