use Rattle.house.proofs.PadLaws.{for_no_rise}
use Rattle.house.proofs.ranges.no_rise.Goals as goal

pub loop-i-preserved : goal.loop-i-preserved
loop-i-preserved c = search for_no_rise

pub returns : goal.returns
returns c = search for_no_rise
