use Rattle.book.proofs.RunLaws.{for_run}
use Rattle.book.proofs.well_formed.run.Goals as goal

pub returns-then-next-at : goal.returns-then-next-at
returns-then-next-at c = search for_run

pub loop-at-preserved : goal.loop-at-preserved
loop-at-preserved c = search for_run

pub returns : goal.returns
returns c = search for_run
