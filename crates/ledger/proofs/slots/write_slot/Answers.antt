use Rattle.ledger.proofs.WriteLaws.{for_write_slot}
use Rattle.ledger.proofs.slots.write_slot.Goals as goal

pub returns : goal.returns
returns c = search for_write_slot
