use borrow.Author.Rules.{rules}
use Rattle.house.proofs.OrderLaws.{same_told}
use Rattle.house.proofs.texts.same.Goals as goal

pub returns : goal.returns
returns c = search (rules, same_told)
