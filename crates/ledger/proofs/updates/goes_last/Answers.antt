use Rattle.ledger.proofs.WriteLaws.{for_goes_last}
use Rattle.ledger.proofs.updates.goes_last.Goals as goal

pub returns-then-before : goal.returns-then-before
returns-then-before c = search for_goes_last

pub returns-else-before : goal.returns-else-before
returns-else-before c = search for_goes_last

pub returns-else-i-gt0 : goal.returns-else-i-gt0
returns-else-i-gt0 c = search for_goes_last
