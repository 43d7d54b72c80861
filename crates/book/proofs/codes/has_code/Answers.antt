use Rattle.book.proofs.CodeLaws.{for_has_code}
use Rattle.book.proofs.codes.has_code.Goals as goal

pub returns-then-q-eq0 : goal.returns-then-q-eq0
returns-then-q-eq0 c = search for_has_code

pub returns-then-stands_at-2 : goal.returns-then-stands_at-2
returns-then-stands_at-2 c = search for_has_code

pub returns-then-blanks : goal.returns-then-blanks
returns-then-blanks c = search for_has_code

pub returns-then-stands_at : goal.returns-then-stands_at
returns-then-stands_at c = search for_has_code

pub returns : goal.returns
returns c = search for_has_code
