use Rattle.house.proofs.OrderLaws.{for_compare_pads}
use Rattle.house.proofs.texts.compare_pads.Goals as goal

pub returns-then-q-p : goal.returns-then-q-p
returns-then-q-p c = search for_compare_pads

pub returns : goal.returns
returns c = search for_compare_pads
