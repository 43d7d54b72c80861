use Rattle.book.proofs.FormLaws.{for_parts}
use Rattle.book.proofs.forms.first_ok.Goals as goal

pub returns-then-k-eq3 : goal.returns-then-k-eq3
returns-then-k-eq3 c = search for_parts

pub returns-else-k-eq3 : goal.returns-else-k-eq3
returns-else-k-eq3 c = search for_parts
