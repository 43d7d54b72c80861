use Rattle.chart_records.proofs.LengthNeeds.{for_fields_length}
use Rattle.chart_records.proofs.lengths.fields_length.Goals as goal

pub loop-width-init : goal.loop-width-init
loop-width-init c = search for_fields_length

pub returns-then-body-at-clause-value : goal.returns-then-body-at-clause-value
returns-then-body-at-clause-value c = search for_fields_length

pub returns-then-body-at-clause-upper_bound : goal.returns-then-body-at-clause-upper_bound
returns-then-body-at-clause-upper_bound c = search for_fields_length

pub loop-width-preserved : goal.loop-width-preserved
loop-width-preserved c = search for_fields_length

pub returns-clause-value : goal.returns-clause-value
returns-clause-value c = search for_fields_length

pub returns-clause-upper_bound : goal.returns-clause-upper_bound
returns-clause-upper_bound c = search for_fields_length
