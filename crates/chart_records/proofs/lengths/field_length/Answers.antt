use Rattle.chart_records.proofs.LengthNeeds.{for_field_length}
use Rattle.chart_records.proofs.lengths.field_length.Goals as goal

pub returns-clause-upper_bound : goal.returns-clause-upper_bound
returns-clause-upper_bound c = search for_field_length
