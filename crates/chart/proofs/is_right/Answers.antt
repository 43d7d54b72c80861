use Rattle.chart.proofs.WriteNeeds.{for_is_right}
use Rattle.chart.proofs.is_right.Goals as goal

pub returns-then-is_batch : goal.returns-then-is_batch
returns-then-is_batch c = search for_is_right

pub returns-else-is_batch : goal.returns-else-is_batch
returns-else-is_batch c = search for_is_right

pub returns-else-is_prefix : goal.returns-else-is_prefix
returns-else-is_prefix c = search for_is_right
