use Rattle.chart.proofs.LotNeeds.{for_is_first}
use Rattle.chart.proofs.lots.is_first.Goals as goal

pub returns-then-i-eq0 : goal.returns-then-i-eq0
returns-then-i-eq0 c = search for_is_first

pub returns : goal.returns
returns c = search for_is_first
