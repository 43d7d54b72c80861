use lib.ListN.{length}
use Rattle.vectors_ledger.proofs.run.Given as goal

abbrev pub decreases-loop-ledger : goal.decreases-loop-ledger
decreases-loop-ledger g l = length l.rest
