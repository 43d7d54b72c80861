use Rattle.chart.proofs.LotNeeds.{for_put_run}
use Rattle.chart.proofs.lots.put_run.Goals as goal

pub put_each-requires-clause-lots_value : goal.put_each-requires-clause-lots_value
put_each-requires-clause-lots_value c = search for_put_run

pub put_each-requires-clause-can : goal.put_each-requires-clause-can
put_each-requires-clause-can c = search for_put_run

pub returns : goal.returns
returns c = search for_put_run
