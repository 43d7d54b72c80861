use Rattle.chart.proofs.RunNeeds.{for_put_next}
use Rattle.chart.proofs.runs.put_next.Goals as goal

pub put_record-pos-requires-clause-at_in_bounds : goal.put_record-pos-requires-clause-at_in_bounds
put_record-pos-requires-clause-at_in_bounds c = search for_put_next

pub put_record-pos-requires-clause-at_value : goal.put_record-pos-requires-clause-at_value
put_record-pos-requires-clause-at_value c = search for_put_next

pub put_record-pos-requires-clause-at_in_bounds_2 :
    goal.put_record-pos-requires-clause-at_in_bounds_2
put_record-pos-requires-clause-at_in_bounds_2 c = search for_put_next

pub returns-clause-puts : goal.returns-clause-puts
returns-clause-puts c = search for_put_next
