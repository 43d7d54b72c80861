use Rattle.chart.proofs.PatientNeeds.{for_put_behind, for_behind_others, for_behind_lots}
use Rattle.chart.proofs.patients.put_behind.Goals as goal

pub put_gathered-next-requires-clause-can : goal.put_gathered-next-requires-clause-can
put_gathered-next-requires-clause-can c = search for_behind_lots

pub put_front-requires-clause-chart_value : goal.put_front-requires-clause-chart_value
put_front-requires-clause-chart_value c = search for_behind_others

pub put_front-requires-clause-can : goal.put_front-requires-clause-can
put_front-requires-clause-can c = search for_behind_others

pub returns : goal.returns
returns c = search for_put_behind
