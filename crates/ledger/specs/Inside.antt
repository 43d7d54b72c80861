-- What the crate's own functions answer: cited by private contracts and by laws. No public contract rests on this page.
-- Assumes nothing.
use Rattle.std.specs.Prelude.{ℕ, ◌+◌, ◌-◌, ◌/◌, ◌≤◌, ◌≡◌, Bool, true, not, cond, ◌&&◌, List, [], ◌∷◌, ◌++◌, length, get_or, take, drop, replicate, leb, ltb, Option, Some, None}
use Rattle.std.specs.declared.cmp.Ordering.{Ordering}
use Rattle.std.specs.declared.cmp.Ordering.TheVariants.{Greater}
use Rattle.house.specs.Text.{Text, all, those, adjacent, order_of, below}
use Rattle.lines_places.specs.Events.{event_at, events_at, ascends}
use Rattle.ledger.specs.Ledger.{slot_bytes, slots, is_live_slot, slot_form, slot_follows, live_in, live_slot, events_after}
use Rattle.ledger.specs.Updates.{slots_for, without, merged_up_to}

-- the first of the slots after slot t, if there is one, may follow it
unfoldable pub followed : Text → List Text → Bool
followed t [] = true
followed t (u ∷ us) = slot_follows t u

-- slot t has the form of its kind, and may be followed as it is
unfoldable pub sound_at : Text → List Text → Bool
sound_at t ts = slot_form t && followed t ts

-- what the check answers where n slots are live and these are left
unfoldable pub sound_from : ℕ → List Text → Option ℕ
sound_from n ts = cond (all slot_form ts && adjacent slot_follows ts) (Some (n + length (those is_live_slot ts))) None

-- the slot of the event of the line at the place before place j of a list; zeros where there is none
unfoldable pub slot_before : Text → List ℕ → ℕ → Text
slot_before f ps j = cond (ltb 0 j && leb j (length ps)) (live_slot (event_at f (get_or ps (j - 1) 0))) (replicate slot_bytes 0)

-- how slot t stands to slot s; above it where there is no slot t
unfoldable pub order_if : Bool → Text → Text → Ordering
order_if there t s = cond there (order_of t s) Greater

-- there is a slot before i, and it does not stand below slot t
unfoldable pub goes_last : List Text → ℕ → Text → Bool
goes_last ss i t = ltb 0 i && not (below (get_or ss (i - 1) []) t)

-- that slot, or else slot t
unfoldable pub last_of : List Text → ℕ → Text → Text
last_of ss i t = cond (goes_last ss i t) (get_or ss (i - 1) []) t

-- the ledger has so many live events, which come first and ascend; the events to add ascend, those to delete ascend, and there is room
pub record Fit (s : Text) (n : ℕ) (f : Text) (adds deletes : List ℕ) : Type 0 where
  pub order : adjacent slot_follows (slots s) ≡ true
  pub live_is : n ≡ length (live_in s)
  pub added : ascends (events_at f adds) ≡ true
  pub deleted : ascends (events_at f deletes) ≡ true
  pub room : length (events_after (live_in s) (events_at f adds) (events_at f deletes)) ≤ length s / slot_bytes

-- what stays of the first n slots
abbrev pub kept_of : List Text → ℕ → Text → List ℕ → List Text
kept_of ss n f deletes = without (slots_for f deletes) (take n ss)

-- the slots once those of the events of the lines at these places have been merged into the first n; from there on they stay
abbrev pub merged_in : List Text → ℕ → Text → List ℕ → List Text
merged_in ss n f adds = merged_up_to ss (slots_for f adds) (length adds) n ++ drop (n + length adds) ss
