use Rattle.ledger.proofs.FormLaws.{for_has_form}
use Rattle.ledger.proofs.form.has_form.Goals as goal

pub returns-then-is_live_slot : goal.returns-then-is_live_slot
returns-then-is_live_slot c = search for_has_form

pub returns-else-is_live_slot : goal.returns-else-is_live_slot
returns-else-is_live_slot c = search for_has_form
