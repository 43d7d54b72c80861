use Rattle.answers.proofs.SettleNeeds.{for_settle}
use Rattle.answers.proofs.settle.settle.Goals as goal

pub bring_up_to_date-requires-clause-added_value : goal.bring_up_to_date-requires-clause-added_value
bring_up_to_date-requires-clause-added_value c = search for_settle

pub bring_up_to_date-requires-clause-index_len_bound :
    goal.bring_up_to_date-requires-clause-index_len_bound
bring_up_to_date-requires-clause-index_len_bound c = search for_settle

pub returns-in-Some-clause-ledger_after : goal.returns-in-Some-clause-ledger_after
returns-in-Some-clause-ledger_after c = search for_settle

pub returns-in-Some-clause-index_after : goal.returns-in-Some-clause-index_after
returns-in-Some-clause-index_after c = search for_settle

pub returns-in-None-clause-ledger_after : goal.returns-in-None-clause-ledger_after
returns-in-None-clause-ledger_after c = search for_settle

pub returns-in-None-clause-index_after : goal.returns-in-None-clause-index_after
returns-in-None-clause-index_after c = search for_settle
