use lib.ListN.{length}
use Rattle.vectors_book.proofs.run.Given as goal

abbrev pub decreases-loop-book : goal.decreases-loop-book
decreases-loop-book g l = length l.rest
