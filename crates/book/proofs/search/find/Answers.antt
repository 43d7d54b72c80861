use Rattle.book.proofs.SearchLaws.{for_find}
use Rattle.book.proofs.search.find.Goals as goal

pub returns-then-kind-gt8 : goal.returns-then-kind-gt8
returns-then-kind-gt8 c = search for_find

pub returns : goal.returns
returns c = search for_find
