use Rattle.chart.proofs.LotNeeds.{for_each_again, for_put_each}
use Rattle.chart.proofs.lots.put_each.Goals as goal

pub put_immunization-spot-requires-clause-can : goal.put_immunization-spot-requires-clause-can
put_immunization-spot-requires-clause-can c = search for_put_each

pub loop-lot-preserved : goal.loop-lot-preserved
loop-lot-preserved c = search for_each_again

pub returns : goal.returns
returns c = search for_put_each
