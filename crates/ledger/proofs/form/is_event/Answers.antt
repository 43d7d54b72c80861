use Rattle.ledger.proofs.FormLaws.{for_is_event}
use Rattle.ledger.proofs.form.is_event.Goals as goal

pub returns-in-Some : goal.returns-in-Some
returns-in-Some c = search for_is_event

pub returns-in-None : goal.returns-in-None
returns-in-None c = search for_is_event

pub returns-else-all_digits : goal.returns-else-all_digits
returns-else-all_digits c = search for_is_event
