use Rattle.chart.proofs.WriteNeeds.{for_file_patients, for_put_file}
use Rattle.chart.proofs.files.put_file.Goals as goal

pub put_head-pos-requires : goal.put_head-pos-requires
put_head-pos-requires c = search for_put_file

pub put_patients-end-requires-clause-patients : goal.put_patients-end-requires-clause-patients
put_patients-end-requires-clause-patients c = search for_file_patients

pub put_patients-end-requires-clause-can : goal.put_patients-end-requires-clause-can
put_patients-end-requires-clause-can c = search for_file_patients

pub overflow_add-end : goal.overflow_add-end
overflow_add-end c = search for_put_file

pub put_foot-requires : goal.put_foot-requires
put_foot-requires c = search for_put_file

pub returns-clause-out_after : goal.returns-clause-out_after
returns-clause-out_after c = search for_put_file

pub returns-clause-value : goal.returns-clause-value
returns-clause-value c = search for_put_file
