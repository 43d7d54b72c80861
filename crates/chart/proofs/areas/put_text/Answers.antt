use Rattle.chart.proofs.AreaNeeds.{for_put_text}
use Rattle.chart.proofs.areas.put_text.Goals as goal

pub loop-i-preserved : goal.loop-i-preserved
loop-i-preserved c = search for_put_text

pub returns-clause-out_after : goal.returns-clause-out_after
returns-clause-out_after c = search for_put_text
