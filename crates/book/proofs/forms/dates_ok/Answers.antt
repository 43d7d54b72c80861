use Rattle.book.proofs.FormLaws.{for_forms}
use Rattle.book.proofs.forms.dates_ok.Goals as goal

pub returns-then-start_ok : goal.returns-then-start_ok
returns-then-start_ok c = search for_forms

pub returns-else-start_ok : goal.returns-else-start_ok
returns-else-start_ok c = search for_forms
