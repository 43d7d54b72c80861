use Rattle.house.proofs.OrderLaws.{for_front_order}
use Rattle.house.proofs.texts.front_order.Goals as goal

pub returns-then-x-y-2 : goal.returns-then-x-y-2
returns-then-x-y-2 c = search for_front_order

pub returns-else-x-y-2 : goal.returns-else-x-y-2
returns-else-x-y-2 c = search for_front_order

pub loop-i-preserved : goal.loop-i-preserved
loop-i-preserved c = search for_front_order

pub returns : goal.returns
returns c = search for_front_order
