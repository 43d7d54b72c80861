-- What an update leaves, for a ledger and a file of any bytes, any places, and any number said to be live: one walk along the slots and those
-- to delete, and a merge with those to add, from the end. Of a well-formed ledger with so many live events, where the events to delete and to
-- add ascend and have room, it is the ledger that holds "exactly the events live before, plus the added, less the deleted"
-- (`updated_fit` of proofs/UpdateLaws).
-- Assumes nothing.
use Rattle.std.specs.Prelude.{ℕ, zero, suc, ◌+◌, ◌-◌, ◌*◌, Bool, false, cond, List, [], ◌∷◌, ◌++◌, map, length, get_or, take, replicate, leb}
use Rattle.house.specs.Text.{Text, joined, below, same}
use Rattle.lines_places.specs.Events.{events_at}
use Rattle.ledger.specs.Ledger.{slot_bytes, slots_in, slots, slots_asked, live_slot}

-- a slot's place in the order is by all of its bytes
abbrev pub whole : Text → Text
whole t = t

-- the slots of the events of the lines at these places
unfoldable pub slots_for : Text → List ℕ → List Text
slots_for f ps = map live_slot (events_at f ps)

-- What is deleted

-- slots from the first on that does not stand below slot s
abbrev pub not_below : Text → List Text → List Text
not_below s [] = []
not_below s (d ∷ ds) = cond (below d s) (not_below s ds) (d ∷ ds)

-- the first of these slots is slot s
abbrev pub is_next : Text → List Text → Bool
is_next s [] = false
is_next s (d ∷ ds) = same d s

-- slots without those to delete, along both lists: a slot goes if it is the first of those to delete that do not stand below it
unfoldable pub without : List Text → List Text → List Text
without ds [] = []
without ds (s ∷ ss) = cond (is_next s (not_below s ds)) (without (not_below s ds) ss) (s ∷ without (not_below s ds) ss)

-- What is added

-- the first i of these slots, with slot a put after the last of them that stands below it, and before that what goes with so many of them
unfoldable pub put_after : List Text → Text → (ℕ → List Text) → ℕ → List Text
put_after ss a before zero = before zero ++ (a ∷ [])
put_after ss a before (suc i) = cond (below (get_or ss i []) a) (before (suc i) ++ (a ∷ [])) (put_after ss a before i ++ (get_or ss i [] ∷ []))

-- the first i of these slots merged with the first j of those to add
unfoldable pub merged_up_to : List Text → List Text → ℕ → ℕ → List Text
merged_up_to ss added zero i = take i ss
merged_up_to ss added (suc j) i = put_after ss (get_or added j []) (merged_up_to ss added j) i

-- The ledger after

-- what stays of the slots, as many as are said to be live
unfoldable pub kept_in : Text → ℕ → Text → List ℕ → List Text
kept_in s n f deletes = without (slots_for f deletes) (take (slots_asked s n) (slots s))

-- these places where they have room after k slots, else none
unfoldable pub roomed : Text → ℕ → List ℕ → List ℕ
roomed s k adds = cond (leb (k + length adds) (slots_in s)) adds []

-- these slots merged with those to add
unfoldable pub merged : List Text → List Text → List Text
merged ss added = merged_up_to ss added (length added) (length ss)

-- these slots, and free ones after them, in an area of n bytes
unfoldable pub filled : ℕ → List Text → Text
filled n ss = joined whole ss ++ replicate (n - length ss * slot_bytes) 0

unfoldable pub updated : Text → ℕ → Text → List ℕ → List ℕ → Text
updated s n f adds deletes =
    filled (length s) (merged (kept_in s n f deletes) (slots_for f (roomed s (length (kept_in s n f deletes)) adds)))
