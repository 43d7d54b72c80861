use Rattle.rules.proofs.LookNeeds.{for_joins_open}
use Rattle.rules.proofs.blocks.joins_open.Goals as goal

pub returns-then-same_at-3 : goal.returns-then-same_at-3
returns-then-same_at-3 c = search for_joins_open

pub returns-then-same_at-2 : goal.returns-then-same_at-2
returns-then-same_at-2 c = search for_joins_open

pub returns-then-same_at : goal.returns-then-same_at
returns-then-same_at c = search for_joins_open

pub returns : goal.returns
returns c = search for_joins_open
