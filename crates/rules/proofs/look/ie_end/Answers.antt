use Rattle.rules.proofs.LookNeeds.{for_ie_end}
use Rattle.rules.proofs.look.ie_end.Goals as goal

pub loop-at-init : goal.loop-at-init
loop-at-init c = search for_ie_end

pub returns-then-kind_of-ne-IE : goal.returns-then-kind_of-ne-IE
returns-then-kind_of-ne-IE c = search for_ie_end

pub loop-at-smaller : goal.loop-at-smaller
loop-at-smaller c = search for_ie_end

pub loop-at-preserved : goal.loop-at-preserved
loop-at-preserved c = search for_ie_end

pub returns : goal.returns
returns c = search for_ie_end
