use Rattle.ledger.proofs.GapLaws.{for_keep_live}
use Rattle.ledger.proofs.updates.keep_live.Goals as goal

pub returns-then-deletes-eq0-clause-value : goal.returns-then-deletes-eq0-clause-value
returns-then-deletes-eq0-clause-value c = search for_keep_live

pub returns-then-deletes-eq0-clause-ledger_after : goal.returns-then-deletes-eq0-clause-ledger_after
returns-then-deletes-eq0-clause-ledger_after c = search for_keep_live
