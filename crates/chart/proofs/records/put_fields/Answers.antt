use Rattle.chart.proofs.RecordNeeds.{for_put_fields}
use Rattle.chart.proofs.records.put_fields.Goals as goal

pub loop-width-init : goal.loop-width-init
loop-width-init c = search for_put_fields

pub put_piped-pos-requires : goal.put_piped-pos-requires
put_piped-pos-requires c = search for_put_fields

pub loop-width-preserved : goal.loop-width-preserved
loop-width-preserved c = search for_put_fields

pub returns-clause-out_after : goal.returns-clause-out_after
returns-clause-out_after c = search for_put_fields

pub returns-clause-value : goal.returns-clause-value
returns-clause-value c = search for_put_fields
