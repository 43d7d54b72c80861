use Rattle.chart.proofs.WriteNeeds.{for_has_room}
use Rattle.chart.proofs.files.has_room.Goals as goal

pub overflow_add-head-2 : goal.overflow_add-head-2
overflow_add-head-2 c = search for_has_room

pub returns-then-most-head : goal.returns-then-most-head
returns-then-most-head c = search for_has_room

pub returns : goal.returns
returns c = search for_has_room
