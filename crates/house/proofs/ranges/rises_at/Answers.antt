use Rattle.house.proofs.PadLaws.{for_rises_at}
use Rattle.house.proofs.ranges.rises_at.Goals as goal

pub returns : goal.returns
returns c = search for_rises_at
