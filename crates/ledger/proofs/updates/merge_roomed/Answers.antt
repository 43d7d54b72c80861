use Rattle.ledger.proofs.UpdateLaws.{for_merge_roomed}
use Rattle.ledger.proofs.updates.merge_roomed.Goals as goal

pub returns-then-n-adds-clause-value : goal.returns-then-n-adds-clause-value
returns-then-n-adds-clause-value c = search for_merge_roomed

pub returns-then-n-adds-clause-ledger_after : goal.returns-then-n-adds-clause-ledger_after
returns-then-n-adds-clause-ledger_after c = search for_merge_roomed

pub returns-else-n-adds-clause-value : goal.returns-else-n-adds-clause-value
returns-else-n-adds-clause-value c = search for_merge_roomed

pub returns-else-n-adds-clause-ledger_after : goal.returns-else-n-adds-clause-ledger_after
returns-else-n-adds-clause-ledger_after c = search for_merge_roomed
