use Rattle.rules_lists.proofs.EntryNeeds.{for_lot_entry}
use Rattle.rules_lists.proofs.entries.lot_entry.Goals as goal

pub returns-then-kind_of-ne-II : goal.returns-then-kind_of-ne-II
returns-then-kind_of-ne-II c = search for_lot_entry

pub returns-then-is_lot_sound : goal.returns-then-is_lot_sound
returns-then-is_lot_sound c = search for_lot_entry

pub returns : goal.returns
returns c = search for_lot_entry
