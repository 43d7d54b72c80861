use Rattle.chart.proofs.RecordNeeds.{for_put_type}
use Rattle.chart.proofs.records.put_type.Goals as goal

pub returns-clause-out_after : goal.returns-clause-out_after
returns-clause-out_after c = search for_put_type
