use Rattle.book.proofs.FormLaws.{for_read}
use Rattle.book.proofs.Position.read.Goals as goal

pub returns-then-book-at : goal.returns-then-book-at
returns-then-book-at c = search for_read

pub returns-then-kind-lt1 : goal.returns-then-kind-lt1
returns-then-kind-lt1 c = search for_read

pub returns-then-kind-gt8 : goal.returns-then-kind-gt8
returns-then-kind-gt8 c = search for_read

pub returns-then-book-body : goal.returns-then-book-body
returns-then-book-body c = search for_read

pub returns : goal.returns
returns c = search for_read
