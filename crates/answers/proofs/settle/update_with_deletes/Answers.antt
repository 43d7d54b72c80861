use Rattle.answers.proofs.SettleNeeds.{for_update_with_deletes}
use Rattle.answers.proofs.settle.update_with_deletes.Goals as goal

pub slice_bounds-update_by-end : goal.slice_bounds-update_by-end
slice_bounds-update_by-end c = search for_update_with_deletes

pub returns-clause-ledger_after : goal.returns-clause-ledger_after
returns-clause-ledger_after c = search for_update_with_deletes
