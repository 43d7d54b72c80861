-- The ledger: its slots, its form, the events that are live in it, and the ledger that holds a list of events.
-- "Ledger, at most 100,000 slots of 38 bytes: kind 1 (a live event: ULI 9 digits, date 8, vaccine 20 padded) or kind 0 (free, 37 zero
-- bytes). Live slots come first and ascend strictly; free ones follow. Zero slots is a valid ledger."
-- Assumes nothing.
use Rattle.std.specs.Prelude.{ℕ, zero, suc, ◌-◌, ◌*◌, ◌/◌, ◌%◌, Bool, true, false, not, cond, ◌&&◌, List, [], ◌∷◌, ◌++◌, map, length, get_or, take, drop, replicate, eqb, leb, Option, Some, None}
use Rattle.house.specs.Text.{Text, any, all, those, joined, adjacent, order_of, same, below, run, is_digit, is_padded}
use Rattle.dates.specs.Dates.{is_date}
use Rattle.house.specs.Search.{binary_search}

-- an event: the 37 bytes of its key
abbrev pub Event : Type 0
Event = Text

abbrev pub event_bytes : ℕ
event_bytes = 37

abbrev pub slot_bytes : ℕ
slot_bytes = 38

abbrev pub slots_most : ℕ
slots_most = 100000

-- how many slots an area has
unfoldable pub slots_in : Text → ℕ
slots_in s = length s / slot_bytes

-- the first n slots
unfoldable pub chop : ℕ → Text → List Text
chop zero s = []
chop (suc n) s = take slot_bytes s ∷ chop n (drop slot_bytes s)

unfoldable pub slots : Text → List Text
slots s = chop (slots_in s) s

-- Forms

unfoldable pub event_form : Event → Bool
event_form e = run 9 9 is_digit (take 9 e) && (is_date (take 8 (drop 9 e)) && is_padded (drop 17 e))

unfoldable pub is_live_slot : Text → Bool
is_live_slot t = eqb (get_or t 0 0) 1

unfoldable pub is_free_slot : Text → Bool
is_free_slot t = all (λ (b : ℕ). eqb b 0) t

-- a live event, or a free slot
unfoldable pub slot_form : Text → Bool
slot_form t = cond (is_live_slot t) (event_form (drop 1 t)) (is_free_slot t)

-- "Live slots come first and ascend strictly; free ones follow.": t may follow s
unfoldable pub slot_follows : Text → Text → Bool
slot_follows s t = cond (is_live_slot t) (is_live_slot s && below s t) true

-- the ledger is well formed. (Change requests 8 and 9 move this, the live events and the ledger that holds a list of them.)
unfoldable pub ledger_ok : Text → Bool
ledger_ok s =
    eqb (length s % slot_bytes) 0
    && (leb (slots_in s) slots_most && (all slot_form (slots s) && adjacent slot_follows (slots s)))

-- the events that are live, in the ledger's order
unfoldable pub live_in : Text → List Event
live_in s = map (drop 1) (those is_live_slot (slots s))

-- what the check of a ledger answers
unfoldable pub valid_of : Text → Option ℕ
valid_of s = cond (ledger_ok s) (Some (length (live_in s))) None

unfoldable pub is_among : List Event → Event → Bool
is_among es e = any (same e) es

-- the event in slot i
unfoldable pub event_in : Text → ℕ → Event
event_in s i = drop 1 (get_or (slots s) i [])

-- how many slots are looked at where n are said to be live
unfoldable pub slots_asked : Text → ℕ → ℕ
slots_asked s n = cond (leb n (slots_in s)) n (slots_in s)

-- what a binary search of the first n slots finds. Of a ledger that is well formed, whose live events are n, it is whether the event is live.
unfoldable pub found_in : Text → ℕ → Event → Bool
found_in s n e = binary_search (λ (i : ℕ). order_of (event_in s i) e) (λ (i : ℕ). true) false (slots_asked s n) 0 (slots_asked s n)

-- "exactly the events live before, plus the added, less the deleted"

-- an event put before the first that does not stand below it
unfoldable pub put_in_order : Event → List Event → List Event
put_in_order e [] = e ∷ []
put_in_order e (x ∷ xs) = cond (below x e) (x ∷ put_in_order e xs) (e ∷ x ∷ xs)

unfoldable pub plus : List Event → List Event → List Event
plus [] es = es
plus (a ∷ added) es = put_in_order a (plus added es)

unfoldable pub less : List Event → List Event → List Event
less deleted es = those (λ (e : Event). not (is_among deleted e)) es

unfoldable pub events_after : List Event → List Event → List Event → List Event
events_after live added deleted = plus added (less deleted live)

-- the slot of a live event
abbrev pub live_slot : Event → Text
live_slot e = 1 ∷ e

-- the ledger "in this form", in an area of n bytes, that holds these events: their slots, then free ones
unfoldable pub ledger_with : ℕ → List Event → Text
ledger_with n es = joined live_slot es ++ replicate (n - length es * slot_bytes) 0
