use Rattle.chart.proofs.RunNeeds.{for_put_immunization}
use Rattle.chart.proofs.runs.put_immunization.Goals as goal

pub put_next-behind-requires-clause-can : goal.put_next-behind-requires-clause-can
put_next-behind-requires-clause-can c = search for_put_immunization

pub put_front-requires-clause-chart_value : goal.put_front-requires-clause-chart_value
put_front-requires-clause-chart_value c = search for_put_immunization

pub put_front-requires-clause-can : goal.put_front-requires-clause-can
put_front-requires-clause-can c = search for_put_immunization

pub returns : goal.returns
returns c = search for_put_immunization
