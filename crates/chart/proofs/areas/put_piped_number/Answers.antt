use Rattle.chart.proofs.AreaNeeds.{for_put_piped}
use Rattle.chart.proofs.areas.put_piped_number.Goals as goal

pub returns-clause-out_after : goal.returns-clause-out_after
returns-clause-out_after c = search for_put_piped
