use Rattle.answers.proofs.SettleNeeds.{for_update_by}
use Rattle.answers.proofs.settle.update_by.Goals as goal

pub slice_bounds-update-end : goal.slice_bounds-update-end
slice_bounds-update-end c = search for_update_by

pub returns-clause-ledger_after : goal.returns-clause-ledger_after
returns-clause-ledger_after c = search for_update_by
