use Rattle.chart.proofs.EventNeeds.{for_lots_again, for_put_lots}
use Rattle.chart.proofs.lots.put_lots.Goals as goal

pub put_event-spot-requires-clause-at_value : goal.put_event-spot-requires-clause-at_value
put_event-spot-requires-clause-at_value c = search for_put_lots

pub put_event-spot-requires-clause-can : goal.put_event-spot-requires-clause-can
put_event-spot-requires-clause-can c = search for_put_lots

pub loop-spot-smaller-then-kind-eq-II : goal.loop-spot-smaller-then-kind-eq-II
loop-spot-smaller-then-kind-eq-II c = search for_put_lots

pub loop-spot-preserved-then-kind-eq-II : goal.loop-spot-preserved-then-kind-eq-II
loop-spot-preserved-then-kind-eq-II c = search for_lots_again

pub loop-spot-smaller : goal.loop-spot-smaller
loop-spot-smaller c = search for_put_lots

pub loop-spot-preserved : goal.loop-spot-preserved
loop-spot-preserved c = search for_lots_again

pub returns-in-loop-spot : goal.returns-in-loop-spot
returns-in-loop-spot c = search for_put_lots

pub returns : goal.returns
returns c = search for_put_lots
