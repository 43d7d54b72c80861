-- What each need of the functions that test a ledger's form asks.
-- Assumes nothing.
use mathlib.Core.Path.{◌≡◌, refl, sym, ap, ap₂, ◌∙◌}
use mathlib.Core.Bool.{Bool, true, false, cond, ◌&&◌}
use mathlib.Core.List.{List, [], ◌∷◌}
use Prim.Native.Nat.{ℕ, ◌+◌, ◌/◌, ◌%◌, ◌≤◌, ◌<◌}
use native.Mathlib.Numerals.{add-one}
use native.Mathlib.Omega.{arith}
use borrow.Author.Rules.{rules}
use borrow.Author.Tests.{eq-eqb, ne_eqb, eqb-true, eqb-false, le-leb, lt-leb}
use lib.Dec.{eqb, leb}
use lib.ListN.{length, take, drop, get_or, length-drop, length-map, drop_of_length-le}
use lib.Seq.{drop-cons, length-take-le, take_all}
use Rattle.dates.specs.declared.Date.{Date}
use Rattle.house.specs.Text.{Text, all, those, adjacent, chained, below, within, run, digits, is_padded}
use Rattle.dates.specs.Dates.{dated_of}
use Rattle.dates.proofs.DateLaws.{dated_true, dated_false}
use Rattle.ledger.specs.Ledger.{slots_in, slots, event_form, is_live_slot, is_free_slot, slot_form, slot_follows, ledger_ok, live_in, valid_of}
use Rattle.ledger.specs.Inside.{followed, sound_at, sound_from}
use Rattle.ledger.proofs.SlotLaws.{length_slots}
use Rattle.std.proofs.Common.{Option, Some, None}

-- is_event
module _ (e : Text) (n : length e ≡ 37) where
  nine : length (take 9 e) ≡ 9
  nine = length-take-le 9 e (omega arith)

  rest : take 20 (drop 17 e) ≡ drop 17 e
  rest = take_all 20 (drop 17 e) (omega (arith, length-drop 17 e))

  pub event_digits : (g : Bool) → g ≡ digits (take 9 e) → g ≡ false → false ≡ event_form e
  unfolding event_form run digits
  event_digits g p f = rw (nine, ← p, f)

  module _ (g : Bool) (p : g ≡ digits (take 9 e)) (f : g ≡ true) (r : Option Date) (q : r ≡ dated_of (take 8 (drop 9 e))) where
    pub event_undated : r ≡ None → false ≡ event_form e
    unfolding event_form run digits
    event_undated z = rw (nine, ← p, f, dated_false (take 8 (drop 9 e)) (sym q ∙ z))

    pub event_dated : (d : Date) (b : Bool) → r ≡ Some d → b ≡ is_padded (take 20 (drop 17 e)) → b ≡ event_form e
    unfolding event_form run digits
    event_dated d b z w = rw (nine, ← p, f, dated_true (take 8 (drop 9 e)) d (sym q ∙ z)) (w ∙ ap is_padded rest)

pub ruleset for_is_event = (rules, event_digits, event_undated, event_dated)

-- is_live_slot
pub live_slot_lem : (t : Text) → eqb (get_or t 0 0) 1 ≡ is_live_slot t
unfolding is_live_slot
live_slot_lem t = refl

pub ruleset for_live_slot = (rules, live_slot_lem)

-- is_free_slot
zero_within : (b : ℕ) → within 0 0 b ≡ eqb b 0
zero_within b = go (eqb b 0) refl
  where
    go : (u : Bool) → eqb b 0 ≡ u → (leb 0 b && leb b 0) ≡ u
    go true e = let h : b ≡ 0 = eqb-true b 0 e in rw (le-leb 0 b (omega arith), le-leb b 0 (omega arith))
    go false e = rw (le-leb 0 b (omega arith), lt-leb b 0 (positive b (eqb-false b 0 e)))
      where
        positive : (n : ℕ) → (n ≡ 0 → ⊥) → 0 < n
        positive n f = omega arith

pub free_is : (t : Text) (r : Bool) → r ≡ all (within 0 0) t → r ≡ is_free_slot t
unfolding is_free_slot
free_is t r e = e ∙ go t
  where
    go : (s : Text) → all (within 0 0) s ≡ all (λ (b : ℕ). eqb b 0) s
    go [] = refl
    go (b ∷ s) = ap₂ ◌&&◌ (zero_within b) (go s)

pub ruleset for_free_slot = (rules, free_is)

-- has_form
module _ (t : Text) (g : Bool) (p : g ≡ is_live_slot t) where
  pub form_size : length t ≡ 38 → length (take 37 (drop 1 t)) ≡ 37
  form_size n = length-take-le 37 (drop 1 t) (omega (arith, length-drop 1 t))

  pub form_live : (r : Bool) → length t ≡ 38 → g ≡ true → r ≡ event_form (take 37 (drop 1 t)) → r ≡ slot_form t
  unfolding slot_form
  form_live r n f q = rw (← p, f) (q ∙ ap event_form (take_all 37 (drop 1 t) (omega (arith, length-drop 1 t))))

  pub form_free : (r : Bool) → g ≡ false → r ≡ is_free_slot t → r ≡ slot_form t
  unfolding slot_form
  form_free r f q = rw (← p, f) q

pub ruleset for_has_form = (rules, form_size, form_live, form_free)

-- the slots from i on
module _ (s : Text) (i : ℕ) where
  pub slots_here : i < length s / 38 → drop i (slots s) ≡ get_or (slots s) i [] ∷ drop (i + 1) (slots s)
  slots_here h = rw (add-one, drop-cons (slots s) i [] (omega (arith, length_slots s)))

  pub slots_past : length s / 38 ≤ i → drop i (slots s) ≡ []
  slots_past h = drop_of_length-le (slots s) {i = i} (omega (arith, length_slots s))

-- may_follow
module _ (s t : Text) (g : Bool) (p : g ≡ is_live_slot t) where
  pub follow_free : g ≡ false → true ≡ slot_follows s t
  unfolding slot_follows
  follow_free f = rw (← p, f)

  module _ (f : g ≡ true) (k : Bool) (q : k ≡ is_live_slot s) where
    pub follow_not : k ≡ false → false ≡ slot_follows s t
    unfolding slot_follows
    follow_not e = rw (← p, f, ← q, e)

    pub follow_live : (r : Bool) → k ≡ true → r ≡ below s t → r ≡ slot_follows s t
    unfolding slot_follows
    follow_live r e w = rw (← p, f, ← q, e) w

pub ruleset for_may_follow = (rules, follow_free, follow_not, follow_live)

-- is_sound_at
module _ (s : Text) (i : ℕ) (t : Text) (e : t ≡ get_or (slots s) i []) (g : Bool) (p : g ≡ slot_form t) where
  pub at_unformed : g ≡ false → false ≡ sound_at (get_or (slots s) i []) (drop (i + 1) (slots s))
  unfolding sound_at
  at_unformed f = rw (← e, ← p, f)

  pub at_last : g ≡ true → length s / 38 ≤ i + 1 → true ≡ sound_at (get_or (slots s) i []) (drop (i + 1) (slots s))
  unfolding sound_at followed
  at_last f l = rw (slots_past s (i + 1) l, ← e, ← p, f)

  pub at_next : (u : Text) (r : Bool) → g ≡ true → i + 1 < length s / 38 → u ≡ get_or (slots s) (i + 1) [] → r ≡ slot_follows t u → r ≡ sound_at (get_or (slots s) i []) (drop (i + 1) (slots s))
  unfolding sound_at followed
  at_next u r f h w q = rw (slots_here s (i + 1) h, ← e, ← w, ← p, f) q

pub ruleset for_sound_at = (rules, at_unformed, at_last, at_next)

-- sound_slots
swap : (a b c d : Bool) → ((a && c) && (b && d)) ≡ ((a && b) && (c && d))
swap false b c d = refl
swap true true c d = refl
swap true false true d = refl
swap true false false d = refl

sound_cons : (t : Text) (ts : List Text) → ((slot_form t && all slot_form ts) && chained slot_follows t ts) ≡ (sound_at t ts && (all slot_form ts && adjacent slot_follows ts))
unfolding sound_at followed
sound_cons t [] = swap (slot_form t) true true true
sound_cons t (u ∷ us) = swap (slot_form t) (slot_follows t u) (slot_form u && all slot_form us) (chained slot_follows u us)

sound_first : (n : ℕ) (t : Text) (ts : List Text) → sound_from n (t ∷ ts) ≡ cond (sound_at t ts) (sound_from (cond (is_live_slot t) (n + 1) n) ts) None
unfolding sound_from
sound_first n t ts = ap (λ (b : Bool). cond b (Some (n + length (those is_live_slot (t ∷ ts)))) None) (sound_cons t ts) ∙ go (sound_at t ts) (is_live_slot t) (all slot_form ts && adjacent slot_follows ts) (those is_live_slot ts)
  where
    go : (a b c : Bool) (l : List Text) → cond (a && c) (Some (n + length (cond b (t ∷ l) l))) None ≡ cond a (cond c (Some (cond b (n + 1) n + length l)) None) None
    go true true c l =
        let m : n + length (t ∷ l) ≡ n + 1 + length l = omega arith in
        ap (λ (k : ℕ). cond c (Some k) None) m
    go true false c l = refl
    go false b c l = refl

module _ (s : Text) (i n : ℕ) (x : Option ℕ) (inv : x ≡ sound_from n (drop i (slots s))) where
  module _ (h : i < length s / 38) (g : Bool) (p : g ≡ sound_at (get_or (slots s) i []) (drop (i + 1) (slots s))) where
    pub slots_wrong : g ≡ false → None ≡ x
    slots_wrong f = rw (inv, slots_here s i h, sound_first, ← p, f)

    module _ (f : g ≡ true) (t : Text) (e : t ≡ get_or (slots s) i []) (k : Bool) (q : k ≡ is_live_slot t) where
      pub slots_live : k ≡ true → x ≡ sound_from (n + 1) (drop (i + 1) (slots s))
      slots_live z = rw (inv, slots_here s i h, sound_first, ← p, f, ← e, ← q, z)

      pub slots_free : k ≡ false → x ≡ sound_from n (drop (i + 1) (slots s))
      slots_free z = rw (inv, slots_here s i h, sound_first, ← p, f, ← e, ← q, z)

  pub slots_end : length s / 38 ≤ i → Some n ≡ x
  unfolding sound_from
  slots_end h = rw (inv, slots_past s i h) (ap Some (omega arith))

pub ruleset for_sound_slots = (rules, slots_wrong, slots_live, slots_free, slots_end)

-- valid
module _ (s : Text) where
  pub valid_odd : (length s % 38 ≡ 0 → ⊥) → None ≡ valid_of s
  unfolding valid_of ledger_ok
  valid_odd n = rw (ne_eqb _ _ n)

  module _ (w : length s % 38 ≡ 0) where
    pub valid_long : 100000 < length s / 38 → None ≡ valid_of s
    unfolding valid_of ledger_ok slots_in
    valid_long l = rw (eq-eqb _ _ w, lt-leb _ _ l)

    pub valid_slots : (r : Option ℕ) → length s / 38 ≤ 100000 → r ≡ sound_from 0 (slots s) → r ≡ valid_of s
    unfolding valid_of ledger_ok slots_in live_in sound_from
    valid_slots r l e =
        let m : 0 + length (those is_live_slot (slots s)) ≡ length (those is_live_slot (slots s)) = omega arith in
        rw (e, eq-eqb _ _ w, le-leb _ _ l, length-map, m)

pub ruleset for_valid = (rules, valid_odd, valid_long, valid_slots)
