use Rattle.chart.proofs.EventNeeds.{for_put_event}
use Rattle.chart.proofs.lots.put_event.Goals as goal

pub put_run-requires-clause-can : goal.put_run-requires-clause-can
put_run-requires-clause-can c = search for_put_event

pub returns-then-is_first : goal.returns-then-is_first
returns-then-is_first c = search for_put_event

pub returns : goal.returns
returns c = search for_put_event
