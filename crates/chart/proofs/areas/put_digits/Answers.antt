use Rattle.chart.proofs.AreaNeeds.{for_put_digits}
use Rattle.chart.proofs.areas.put_digits.Goals as goal

pub loop-i-init : goal.loop-i-init
loop-i-init c = search for_put_digits

pub loop-i-preserved : goal.loop-i-preserved
loop-i-preserved c = search for_put_digits

pub returns : goal.returns
returns c = search for_put_digits
