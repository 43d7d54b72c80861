use Rattle.lines.proofs.CauseLaws.{for_may_follow}
use Rattle.lines.proofs.kinds.may_follow.Goals as goal

pub returns-in_default : goal.returns-in_default
returns-in_default c = search for_may_follow
