use Rattle.book.proofs.SearchLaws.{for_named}
use Rattle.book.proofs.search.named.Goals as goal

pub returns-then-w-past : goal.returns-then-w-past
returns-then-w-past c = search for_named

pub has_code-requires-clause-a_len_bound : goal.has_code-requires-clause-a_len_bound
has_code-requires-clause-a_len_bound c = search for_named

pub has_code-requires-clause-b_len_bound : goal.has_code-requires-clause-b_len_bound
has_code-requires-clause-b_len_bound c = search for_named

pub returns-then-has_code : goal.returns-then-has_code
returns-then-has_code c = search for_named

pub returns-else-has_code : goal.returns-else-has_code
returns-else-has_code c = search for_named
