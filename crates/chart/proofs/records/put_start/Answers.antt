use Rattle.chart.proofs.RecordNeeds.{for_put_start}
use Rattle.chart.proofs.records.put_start.Goals as goal

pub put_type-end-requires-clause-at_in_bounds : goal.put_type-end-requires-clause-at_in_bounds
put_type-end-requires-clause-at_in_bounds c = search for_put_start

pub put_piped_number-requires : goal.put_piped_number-requires
put_piped_number-requires c = search for_put_start

pub returns-clause-out_after : goal.returns-clause-out_after
returns-clause-out_after c = search for_put_start

pub returns-clause-value : goal.returns-clause-value
returns-clause-value c = search for_put_start
