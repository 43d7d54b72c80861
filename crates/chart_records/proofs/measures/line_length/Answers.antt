use Rattle.chart_records.proofs.LineNeeds.{for_line_length}
use Rattle.chart_records.proofs.measures.line_length.Goals as goal

pub part_length-requires-clause-from_le_end : goal.part_length-requires-clause-from_le_end
part_length-requires-clause-from_le_end c = search for_line_length

pub part_length-requires-clause-end_in_bounds : goal.part_length-requires-clause-end_in_bounds
part_length-requires-clause-end_in_bounds c = search for_line_length

pub returns : goal.returns
returns c = search for_line_length
