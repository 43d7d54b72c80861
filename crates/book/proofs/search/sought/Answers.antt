use Rattle.book.proofs.SearchLaws.{for_sought}
use Rattle.book.proofs.search.sought.Goals as goal

pub returns-in-Some : goal.returns-in-Some
returns-in-Some c = search for_sought

pub returns-in-None : goal.returns-in-None
returns-in-None c = search for_sought
