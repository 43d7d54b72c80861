use Rattle.chart.proofs.LineNeeds.{for-put-record}
use Rattle.chart.proofs.records.put_record.Goals as goal

pub put_start-from-requires-clause-kind_len : goal.put_start-from-requires-clause-kind_len
put_start-from-requires-clause-kind_len c = search for-put-record

pub put_start-from-requires-clause-n_in_bounds : goal.put_start-from-requires-clause-n_in_bounds
put_start-from-requires-clause-n_in_bounds c = search for-put-record

pub slice_bounds-put_fields-count : goal.slice_bounds-put_fields-count
slice_bounds-put_fields-count c = search for-put-record

pub slice_bounds-put_fields-start : goal.slice_bounds-put_fields-start
slice_bounds-put_fields-start c = search for-put-record

pub slice_bounds-put_fields-end : goal.slice_bounds-put_fields-end
slice_bounds-put_fields-end c = search for-put-record

pub put_fields-last-requires-clause-body_len : goal.put_fields-last-requires-clause-body_len
put_fields-last-requires-clause-body_len c = search for-put-record

pub put_fields-last-requires-clause-body_in_bounds :
    goal.put_fields-last-requires-clause-body_in_bounds
put_fields-last-requires-clause-body_in_bounds c = search for-put-record

pub put_byte-requires : goal.put_byte-requires
put_byte-requires c = search for-put-record

pub returns-clause-out_after : goal.returns-clause-out_after
returns-clause-out_after c = search for-put-record

pub returns-clause-value : goal.returns-clause-value
returns-clause-value c = search for-put-record
