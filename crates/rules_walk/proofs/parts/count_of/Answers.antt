use borrow.Author.Rules.{rules}
use Rattle.rules_walk.proofs.PartNeeds.{count_is}
use Rattle.rules_walk.proofs.parts.count_of.Goals as goal

pub returns : goal.returns
returns c = count_is _ _ _ _ (search rules)
