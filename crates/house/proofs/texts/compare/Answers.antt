use Rattle.house.proofs.OrderLaws.{for_compare}
use Rattle.house.proofs.texts.compare.Goals as goal

pub returns : goal.returns
returns c = search for_compare
