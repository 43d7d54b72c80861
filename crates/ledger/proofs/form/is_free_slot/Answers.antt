use Rattle.ledger.proofs.FormLaws.{for_free_slot}
use Rattle.ledger.proofs.form.is_free_slot.Goals as goal

pub returns : goal.returns
returns c = search for_free_slot
