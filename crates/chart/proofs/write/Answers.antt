use Rattle.chart.proofs.WriteNeeds.{for_write}
use Rattle.chart.proofs.write.Goals as goal

pub overflow_cast-result : goal.overflow_cast-result
overflow_cast-result c = search for_write

pub returns-then-not-is_right : goal.returns-then-not-is_right
returns-then-not-is_right c = search for_write

pub returns-then-not-has_room : goal.returns-then-not-has_room
returns-then-not-has_room c = search for_write

pub returns : goal.returns
returns c = search for_write
