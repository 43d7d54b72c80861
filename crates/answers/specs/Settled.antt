-- Working definitions: what settling the blocks of an index leaves, for any bytes and places that are lent: whether there was room, the
-- ledger, and the index.
-- Assumes nothing.
use Rattle.std.specs.Prelude.{ℕ, ◌+◌, Bool, cond, ◌&&◌, List, length, leb, Option, Some, None}
use Rattle.house.specs.Text.{Text}
use Rattle.lines.specs.Sorted.{places_most}
use Rattle.ledger.specs.Ledger.{slots_in}
use Rattle.ledger.specs.Updates.{updated}
use Rattle.rules.specs.Firsts.{part_of}
use Rattle.house.specs.Over.{over}
use Rattle.answers.specs.declared.settle.Counts.{Counts}

-- so few places that a small buffer serves
abbrev pub few_places : ℕ
few_places = 316

-- the submission types, by their letters
abbrev pub add_letter : ℕ
add_letter = 65

abbrev pub change_letter : ℕ
change_letter = 67

abbrev pub delete_letter : ℕ
delete_letter = 68

-- the index with the places of those that add at its front
abbrev pub adds_first : Text → List ℕ → List ℕ
adds_first f ps = over (part_of f add_letter ps) ps

-- the ledger, with n live events, brought up to date by the blocks at these places that add, and by those at others that delete
abbrev pub updated_with : Text → ℕ → Text → List ℕ → List ℕ → Text
updated_with ledger n f ps deletes = updated ledger n f (part_of f add_letter ps) deletes

-- and by those of these places that delete
abbrev pub updated_by : Text → ℕ → Text → List ℕ → Text
updated_by ledger n f ps = updated_with ledger n f ps (part_of f delete_letter ps)

-- how many of the blocks at these places add, change and delete
unfoldable pub counts_of : Text → List ℕ → Counts
counts_of f ps = record { added = length (part_of f add_letter ps); changed = length (part_of f change_letter ps); deleted = length (part_of f delete_letter ps) }

-- the places are not too many, and with n live events those that add have room in the ledger's slots and in those that the deletes free
unfoldable pub has_room : Text → Text → ℕ → List ℕ → Bool
has_room f ledger n ps =
    leb (length ps) places_most && leb (n + length (part_of f add_letter ps)) (slots_in ledger + length (part_of f delete_letter ps))

unfoldable pub settled_of : Text → Text → ℕ → List ℕ → Option Counts
settled_of f ledger n ps = cond (has_room f ledger n ps) (Some (counts_of f ps)) None

-- the ledger after; as it was where there is no room
unfoldable pub settled_ledger : Text → Text → ℕ → List ℕ → Text
settled_ledger f ledger n ps = cond (has_room f ledger n ps) (updated_by ledger n f ps) ledger

-- the index after: the places of those that add at its front; as it was where there is no room
unfoldable pub settled_index : Text → Text → ℕ → List ℕ → List ℕ
settled_index f ledger n ps = cond (has_room f ledger n ps) (adds_first f ps) ps
