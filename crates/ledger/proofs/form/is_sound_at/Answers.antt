use Rattle.ledger.proofs.FormLaws.{for_sound_at}
use Rattle.ledger.proofs.form.is_sound_at.Goals as goal

pub returns-then-i-ledger : goal.returns-then-i-ledger
returns-then-i-ledger c = search for_sound_at

pub returns-else-i-ledger : goal.returns-else-i-ledger
returns-else-i-ledger c = search for_sound_at

pub returns-else-has_form : goal.returns-else-has_form
returns-else-has_form c = search for_sound_at
