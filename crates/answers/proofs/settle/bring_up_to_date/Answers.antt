use Rattle.answers.proofs.SettleNeeds.{for_bring_up_to_date}
use Rattle.answers.proofs.settle.bring_up_to_date.Goals as goal

pub returns-then-added-index-clause-ledger_after : goal.returns-then-added-index-clause-ledger_after
returns-then-added-index-clause-ledger_after c = search for_bring_up_to_date

pub returns-then-added-index-clause-index_after : goal.returns-then-added-index-clause-index_after
returns-then-added-index-clause-index_after c = search for_bring_up_to_date
