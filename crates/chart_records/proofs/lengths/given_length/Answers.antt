use Rattle.chart_records.proofs.LengthNeeds.{for_given_length}
use Rattle.chart_records.proofs.lengths.given_length.Goals as goal

pub slice_bounds-fields_length-count : goal.slice_bounds-fields_length-count
slice_bounds-fields_length-count c = search for_given_length

pub slice_bounds-fields_length-start : goal.slice_bounds-fields_length-start
slice_bounds-fields_length-start c = search for_given_length

pub slice_bounds-fields_length-end : goal.slice_bounds-fields_length-end
slice_bounds-fields_length-end c = search for_given_length

pub returns-clause-value : goal.returns-clause-value
returns-clause-value c = search for_given_length
