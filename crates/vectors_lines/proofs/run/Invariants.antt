use lib.ListN.{length}
use Rattle.vectors_lines.proofs.run.Given as goal

abbrev pub decreases-loop-file : goal.decreases-loop-file
decreases-loop-file g l = length l.rest
