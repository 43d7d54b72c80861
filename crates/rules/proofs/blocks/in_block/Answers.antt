use Rattle.rules.proofs.LookNeeds.{for_line}
use Rattle.rules.proofs.blocks.in_block.Goals as goal

pub returns-then-k-ne-II : goal.returns-then-k-ne-II
returns-then-k-ne-II c = search for_line

pub returns : goal.returns
returns c = search for_line
