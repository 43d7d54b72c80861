use Rattle.book.proofs.FormLaws.{for_parts}
use Rattle.book.proofs.forms.start_ok.Goals as goal

pub returns-in-Some : goal.returns-in-Some
returns-in-Some c = search for_parts

pub returns-in-None : goal.returns-in-None
returns-in-None c = search for_parts

pub returns-else-k-eq-VACCINE : goal.returns-else-k-eq-VACCINE
returns-else-k-eq-VACCINE c = search for_parts
