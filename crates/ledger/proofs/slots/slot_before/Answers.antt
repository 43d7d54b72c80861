use Rattle.ledger.proofs.WriteLaws.{for_slot_before}
use Rattle.ledger.proofs.slots.slot_before.Goals as goal

pub returns-then-j-places : goal.returns-then-j-places
returns-then-j-places c = search for_slot_before

pub returns-else-j-places : goal.returns-else-j-places
returns-else-j-places c = search for_slot_before

pub returns-else-j-gt0 : goal.returns-else-j-gt0
returns-else-j-gt0 c = search for_slot_before
