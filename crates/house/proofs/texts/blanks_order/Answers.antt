use Rattle.house.proofs.OrderLaws.{for_blanks_order}
use Rattle.house.proofs.texts.blanks_order.Goals as goal

pub returns-then-b-lt32 : goal.returns-then-b-lt32
returns-then-b-lt32 c = search for_blanks_order

pub returns-else-b-lt32 : goal.returns-else-b-lt32
returns-else-b-lt32 c = search for_blanks_order

pub loop-b-preserved : goal.loop-b-preserved
loop-b-preserved c = search for_blanks_order

pub returns : goal.returns
returns c = search for_blanks_order
