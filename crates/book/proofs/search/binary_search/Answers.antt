use Rattle.book.proofs.SearchLaws.{for_binary_search}
use Rattle.book.proofs.search.binary_search.Goals as goal

pub loop-lo-preserved-in-Less : goal.loop-lo-preserved-in-Less
loop-lo-preserved-in-Less c = search for_binary_search

pub loop-lo-preserved : goal.loop-lo-preserved
loop-lo-preserved c = search for_binary_search

pub returns-in-Equal : goal.returns-in-Equal
returns-in-Equal c = search for_binary_search

pub returns : goal.returns
returns c = search for_binary_search
