use Rattle.ledger.proofs.WriteLaws.{for_stands_to}
use Rattle.ledger.proofs.updates.stands_to.Goals as goal

pub returns-then-there : goal.returns-then-there
returns-then-there c = search for_stands_to

pub returns-else-there : goal.returns-else-there
returns-else-there c = search for_stands_to
