use Rattle.chart.proofs.PatientNeeds.{for_put_patient}
use Rattle.chart.proofs.patients.put_patient.Goals as goal

pub put_next-next-requires-clause-can : goal.put_next-next-requires-clause-can
put_next-next-requires-clause-can c = search for_put_patient

pub put_behind-requires-clause-can : goal.put_behind-requires-clause-can
put_behind-requires-clause-can c = search for_put_patient

pub returns : goal.returns
returns c = search for_put_patient
