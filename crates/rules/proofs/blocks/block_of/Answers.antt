use Rattle.rules.proofs.LookNeeds.{for_block_of}
use Rattle.rules.proofs.blocks.block_of.Goals as goal

pub returns-then-joins_open : goal.returns-then-joins_open
returns-then-joins_open c = search for_block_of

pub returns-then-in_block : goal.returns-then-in_block
returns-then-in_block c = search for_block_of

pub returns : goal.returns
returns c = search for_block_of
