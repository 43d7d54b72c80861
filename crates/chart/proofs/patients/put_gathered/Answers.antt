use Rattle.chart.proofs.PatientNeeds.{for_put_gathered}
use Rattle.chart.proofs.patients.put_gathered.Goals as goal

pub put_immunizations-requires-clause-lots_value : goal.put_immunizations-requires-clause-lots_value
put_immunizations-requires-clause-lots_value c = search for_put_gathered
