use Rattle.book.proofs.SearchLaws.{for_in_section}
use Rattle.book.proofs.search.in_section.Goals as goal

pub returns-then-w : goal.returns-then-w
returns-then-w c = search for_in_section

pub returns-then-book-w : goal.returns-then-book-w
returns-then-book-w c = search for_in_section
