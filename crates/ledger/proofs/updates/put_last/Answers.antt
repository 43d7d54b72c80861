use Rattle.ledger.proofs.WriteLaws.{for_put_last}
use Rattle.ledger.proofs.updates.put_last.Goals as goal

pub overflow_sub-i : goal.overflow_sub-i
overflow_sub-i c = search for_put_last

pub returns-then-goes_last-clause-ledger_after : goal.returns-then-goes_last-clause-ledger_after
returns-then-goes_last-clause-ledger_after c = search for_put_last

pub returns-else-goes_last-clause-ledger_after : goal.returns-else-goes_last-clause-ledger_after
returns-else-goes_last-clause-ledger_after c = search for_put_last
