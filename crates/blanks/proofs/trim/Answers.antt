use Rattle.blanks.proofs.BlankLaws.{for_trim}
use Rattle.blanks.proofs.trim.Goals as goal

pub returns : goal.returns
returns c = search for_trim
