use Rattle.ledger.proofs.FormLaws.{for_live_slot}
use Rattle.ledger.proofs.slots.is_live_slot.Goals as goal

pub returns : goal.returns
returns c = search for_live_slot
