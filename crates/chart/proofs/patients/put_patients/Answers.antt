use borrow.Author.Rules.{rules}
use Rattle.chart.specs.Inside.{is_sound}
use Rattle.chart.proofs.OrderNeeds.{passing_end, for_put_patients, for_patients_one, for_patients_again}
use Rattle.chart.proofs.patients.put_patients.Goals as goal

pub put_patient-spot-requires-clause-at_value : goal.put_patient-spot-requires-clause-at_value
unfolding is_sound
put_patient-spot-requires-clause-at_value c = search for_patients_one

pub put_patient-spot-requires-clause-behind : goal.put_patient-spot-requires-clause-behind
put_patient-spot-requires-clause-behind c = search for_patients_one

pub put_patient-spot-requires-clause-can : goal.put_patient-spot-requires-clause-can
put_patient-spot-requires-clause-can c = search for_patients_one

pub loop-spot-smaller : goal.loop-spot-smaller
loop-spot-smaller c = search for_put_patients

pub loop-spot-preserved : goal.loop-spot-preserved
loop-spot-preserved c = search for_patients_again

pub returns : goal.returns
returns c = passing_end _ _ _ _ _ _ _ _ _ c.loop-spot.invariant.1 (search rules)
