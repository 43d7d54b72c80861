use Rattle.blanks.proofs.BlankLaws.{for_pass_back}
use Rattle.blanks.proofs.pass_back.Goals as goal

pub loop-n-preserved : goal.loop-n-preserved
loop-n-preserved c = search for_pass_back
