use Rattle.ledger.proofs.UpdateLaws.{for_update}
use Rattle.ledger.proofs.updates.update.Goals as goal

pub returns : goal.returns
returns c = search for_update
