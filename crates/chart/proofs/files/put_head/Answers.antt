use Rattle.chart.proofs.FileNeeds.{for_put_head}
use Rattle.chart.proofs.files.put_head.Goals as goal

pub returns-clause-out_after : goal.returns-clause-out_after
returns-clause-out_after c = search for_put_head
