use Rattle.chart.proofs.EventNeeds.{for_put_immunizations}
use Rattle.chart.proofs.lots.put_immunizations.Goals as goal

pub put_lots-requires-clause-ready : goal.put_lots-requires-clause-ready
put_lots-requires-clause-ready c = search for_put_immunizations

pub put_lots-requires-clause-can : goal.put_lots-requires-clause-can
put_lots-requires-clause-can c = search for_put_immunizations

pub returns : goal.returns
returns c = search for_put_immunizations
