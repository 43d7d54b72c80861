use Rattle.book.proofs.SearchLaws.{for_found}
use Rattle.book.proofs.search.found.Goals as goal

pub returns-then-w-a : goal.returns-then-w-a
returns-then-w-a c = search for_found

pub returns-then-w-b : goal.returns-then-w-b
returns-then-w-b c = search for_found

pub in_section-requires-clause-b_value : goal.in_section-requires-clause-b_value
in_section-requires-clause-b_value c = search for_found

pub returns : goal.returns
returns c = search for_found
