use Rattle.book.proofs.LayoutLaws.{for_count_of}
use Rattle.book.proofs.layouts.count_of.Goals as goal

pub returns-then-w-clause-value : goal.returns-then-w-clause-value
returns-then-w-clause-value c = search for_count_of

pub returns-then-book-w-clause-value : goal.returns-then-book-w-clause-value
returns-then-book-w-clause-value c = search for_count_of

pub returns-clause-value : goal.returns-clause-value
returns-clause-value c = search for_count_of
