use Rattle.ledger.proofs.LookLaws.{for_is_live}
use Rattle.ledger.proofs.find.is_live.Goals as goal

pub loop-lo-init : goal.loop-lo-init
loop-lo-init c = search for_is_live

pub loop-lo-preserved-in-Less : goal.loop-lo-preserved-in-Less
loop-lo-preserved-in-Less c = search for_is_live

pub loop-lo-preserved : goal.loop-lo-preserved
loop-lo-preserved c = search for_is_live

pub returns-in-Equal : goal.returns-in-Equal
returns-in-Equal c = search for_is_live

pub returns : goal.returns
returns c = search for_is_live
