use Rattle.rules_lists.proofs.EntryNeeds.{for_antigen_entry}
use Rattle.rules_lists.proofs.entries.antigen_entry.Goals as goal

pub overflow_add-place : goal.overflow_add-place
overflow_add-place c = search for_antigen_entry

pub overflow_cast-result : goal.overflow_cast-result
overflow_cast-result c = search for_antigen_entry

pub overflow_add-result : goal.overflow_add-result
overflow_add-result c = search for_antigen_entry

pub returns-then-sound_text : goal.returns-then-sound_text
returns-then-sound_text c = search for_antigen_entry

pub returns : goal.returns
returns c = search for_antigen_entry
