use Rattle.chart.proofs.AreaNeeds.{for_put_byte}
use Rattle.chart.proofs.areas.put_byte.Goals as goal

pub returns-clause-out_after : goal.returns-clause-out_after
returns-clause-out_after c = search for_put_byte
