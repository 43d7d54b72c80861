use Rattle.ledger.proofs.SlotLaws.{for_slot}
use Rattle.ledger.proofs.slots.slot.Goals as goal

pub returns-clause-result_value : goal.returns-clause-result_value
returns-clause-result_value c = search for_slot
