use Rattle.house.proofs.OrderLaws.{for_before}
use Rattle.house.proofs.texts.before.Goals as goal

pub returns : goal.returns
returns c = search for_before
