use Rattle.chart.proofs.LotNeeds.{for_run_end}
use Rattle.chart.proofs.lots.run_end.Goals as goal

pub loop-j-preserved : goal.loop-j-preserved
loop-j-preserved c = search for_run_end

pub returns-then-not-one_key-clause-lots_value : goal.returns-then-not-one_key-clause-lots_value
returns-then-not-one_key-clause-lots_value c = search for_run_end
