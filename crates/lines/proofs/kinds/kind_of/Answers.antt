use Rattle.lines.proofs.KindNeeds.{for_kind_of}
use Rattle.lines.proofs.kinds.kind_of.Goals as goal

pub returns-then-text-lt3 : goal.returns-then-text-lt3
returns-then-text-lt3 c = search for_kind_of

pub returns-then-text-ne73 : goal.returns-then-text-ne73
returns-then-text-ne73 c = search for_kind_of

pub returns-then-text-ne124 : goal.returns-then-text-ne124
returns-then-text-ne124 c = search for_kind_of

pub returns : goal.returns
returns c = search for_kind_of
