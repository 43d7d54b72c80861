use Rattle.answers.proofs.SettleNeeds.{for_room_for}
use Rattle.answers.proofs.settle.room_for.Goals as goal

pub returns-then-index-gt-MOST_PLACES : goal.returns-then-index-gt-MOST_PLACES
returns-then-index-gt-MOST_PLACES c = search for_room_for

pub returns-then-room-live : goal.returns-then-room-live
returns-then-room-live c = search for_room_for

pub returns-then-room-live-2 : goal.returns-then-room-live-2
returns-then-room-live-2 c = search for_room_for

pub returns : goal.returns
returns c = search for_room_for
