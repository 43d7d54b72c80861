use Rattle.chart.proofs.LotNeeds.{for_gather}
use Rattle.chart.proofs.lots.gather.Goals as goal

pub bounds-places-n : goal.bounds-places-n
bounds-places-n c = search for_gather

pub loop-from-smaller-then-kind-eq-II : goal.loop-from-smaller-then-kind-eq-II
loop-from-smaller-then-kind-eq-II c = search for_gather

pub loop-from-preserved-then-kind-eq-II : goal.loop-from-preserved-then-kind-eq-II
loop-from-preserved-then-kind-eq-II c = search for_gather

pub loop-from-smaller : goal.loop-from-smaller
loop-from-smaller c = search for_gather

pub loop-from-preserved : goal.loop-from-preserved
loop-from-preserved c = search for_gather

pub returns-in-loop-from-clause-value : goal.returns-in-loop-from-clause-value
returns-in-loop-from-clause-value c = search for_gather

pub returns-in-loop-from-clause-places_after : goal.returns-in-loop-from-clause-places_after
returns-in-loop-from-clause-places_after c = search for_gather

pub returns-clause-value : goal.returns-clause-value
returns-clause-value c = search for_gather

pub returns-clause-places_after : goal.returns-clause-places_after
returns-clause-places_after c = search for_gather
