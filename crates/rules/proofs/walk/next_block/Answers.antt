use Rattle.rules.proofs.WalkNeeds.{for_next_block}
use Rattle.rules.proofs.walk.next_block.Goals as goal

pub returns : goal.returns
returns c = search for_next_block
