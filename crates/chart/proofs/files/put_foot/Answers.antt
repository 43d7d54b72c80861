use Rattle.chart.proofs.FileNeeds.{for_put_foot}
use Rattle.chart.proofs.files.put_foot.Goals as goal

pub put_text-first-requires : goal.put_text-first-requires
put_text-first-requires c = search for_put_foot

pub put_piped_number-second-requires : goal.put_piped_number-second-requires
put_piped_number-second-requires c = search for_put_foot

pub put_text-requires : goal.put_text-requires
put_text-requires c = search for_put_foot

pub returns-clause-out_after : goal.returns-clause-out_after
returns-clause-out_after c = search for_put_foot

pub returns-clause-value : goal.returns-clause-value
returns-clause-value c = search for_put_foot
