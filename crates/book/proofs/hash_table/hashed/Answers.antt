use Rattle.book.proofs.HashLaws.{for_hashed}
use Rattle.book.proofs.hash_table.hashed.Goals as goal

pub returns-then-book-end-clause-value : goal.returns-then-book-end-clause-value
returns-then-book-end-clause-value c = search for_hashed

pub returns-then-at-table-clause-value : goal.returns-then-at-table-clause-value
returns-then-at-table-clause-value c = search for_hashed

pub returns-else-at-table-clause-value : goal.returns-else-at-table-clause-value
returns-else-at-table-clause-value c = search for_hashed
