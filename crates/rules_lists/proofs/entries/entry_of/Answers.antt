use Rattle.rules_lists.proofs.EntryNeeds.{for_entry_of}
use Rattle.rules_lists.proofs.entries.entry_of.Goals as goal

pub returns-in-0 : goal.returns-in-0
returns-in-0 c = search for_entry_of

pub returns-in-1 : goal.returns-in-1
returns-in-1 c = search for_entry_of

pub returns-in_default : goal.returns-in_default
returns-in_default c = search for_entry_of
