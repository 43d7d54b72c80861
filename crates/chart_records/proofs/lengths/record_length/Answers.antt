use Rattle.chart_records.proofs.LengthNeeds.{for_record_length}
use Rattle.chart_records.proofs.lengths.record_length.Goals as goal

pub returns : goal.returns
returns c = search for_record_length
