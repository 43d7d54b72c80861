-- What each need of the comparison of events asks.
-- Assumes nothing.
use mathlib.Core.Path.{◌≡◌, refl, sym, ap, ◌∙◌}
use mathlib.Core.Bool.{Bool, true, false}
use mathlib.Core.List.{[], ◌++◌}
use Prim.Native.Nat.{ℕ, zero, suc, ◌+◌, ◌-◌, ◌≤◌, ◌<◌}
use native.Mathlib.Omega.{arith}
use borrow.Author.Rules.{rules}
use borrow.Author.Tests.{ltb-true}
use lib.Dec.{ltb}
use lib.ListN.{length, take, drop, length-drop}
use lib.Seq.{take_all}
use Rattle.house.specs.Text.{Text, order_of, same, pad}
use Rattle.house.specs.Numbers.{lesser_of}
use Rattle.std.specs.declared.cmp.Ordering.{Ordering}
use Rattle.std.specs.declared.cmp.Ordering.TheVariants.{Less, Equal, Greater}
use Rattle.house.proofs.OrderAlgebra.{order_append}
use Rattle.house.proofs.OrderLaws.{length_pad}
use Rattle.house.proofs.Suffix.{drop_past, rest}
use Rattle.blanks.specs.Blanks.{trimmed}
use Rattle.lines_words.specs.Words.{part_at, chart_event}
use Rattle.lines_words.specs.Inside.{given_at, submitted_at}
use Rattle.std.specs.Ordering.{ordering_then}

-- bytes_from
none_of : (w : ℕ) → [] ≡ take {A = ℕ} w []
none_of zero = refl
none_of (suc w) = refl

module _ (s : Text) (at w : ℕ) where
  pub bytes_none : length s ≤ at → [] ≡ take w (drop at s)
  bytes_none h = rw (drop_past s at h) (none_of w)

  pub bytes_are : (n : ℕ) → n ≡ lesser_of w (length s - at) → take (at + n - at) (drop at s) ≡ take w (drop at s)
  bytes_are n e = go (ltb (length s - at) w) refl
    where
      same_bytes : at + n - at ≡ n
      same_bytes = omega arith

      go : (t : Bool) → ltb (length s - at) w ≡ t → take (at + n - at) (drop at s) ≡ take w (drop at s)
      go true z =
          let h : length s - at < w = ltb-true (length s - at) w z in
          let k : n ≡ length s - at = e ∙ rw z in
          rw (same_bytes, k) (rest s at ∙ sym (take_all w (drop at s) (omega (arith, length-drop at s))))
      go false z = let k : n ≡ w = e ∙ rw z in rw (same_bytes, k)

pub ruleset for_bytes_from = (rules, bytes_none, bytes_are)

-- part_of
pub part_is : (s t r : Text) (at w : ℕ) → t ≡ take w (drop at s) → r ≡ trimmed t → r ≡ trimmed (take w (drop at s))
part_is s t r at w a b = b ∙ ap trimmed a

pub ruleset for_part_of = (rules, part_is)

-- padded_order
pub parts_stand : (s a b : Text) (p q w : ℕ) (o : Ordering) → a ≡ trimmed (take w (drop p s)) → b ≡ trimmed (take w (drop q s)) → o ≡ order_of (pad w a) (pad w b)
    → o ≡ order_of (part_at s p w) (part_at s q w)
unfolding part_at
parts_stand s a b p q w o x y r = rw (← x, ← y) r

pub ruleset for_padded_order = (rules, parts_stand)

-- fields in turn
pub length_part : (s : Text) (at w : ℕ) → length (part_at s at w) ≡ w
unfolding part_at
length_part s at w = length_pad w (trimmed (take w (drop at s)))

module _ (s : Text) (p q w : ℕ) (t u : Text) (o : Ordering) (r : o ≡ order_of (part_at s p w) (part_at s q w)) where
  in_turn : order_of (part_at s p w ++ t) (part_at s q w ++ u) ≡ ordering_then o (order_of t u)
  in_turn =
      order_append (part_at s p w) (part_at s q w) t u (length_part s p w ∙ sym (length_part s q w))
      ∙ ap (λ (n : Ordering). ordering_then n (order_of t u)) (sym r)

  turn_less : o ≡ Less → Less ≡ order_of (part_at s p w ++ t) (part_at s q w ++ u)
  turn_less z = sym (in_turn ∙ rw z)

  turn_more : o ≡ Greater → Greater ≡ order_of (part_at s p w ++ t) (part_at s q w ++ u)
  turn_more z = sym (in_turn ∙ rw z)

  turn_same : (n : Ordering) → o ≡ Equal → n ≡ order_of t u → n ≡ order_of (part_at s p w ++ t) (part_at s q w ++ u)
  turn_same n z y = y ∙ sym (in_turn ∙ rw z)

-- given_order
module _ (s : Text) (e f : ℕ) (o : Ordering) (r : o ≡ order_of (part_at s (e + 12) 8) (part_at s (f + 12) 8)) where
  pub given_less : o ≡ Less → Less ≡ order_of (given_at s e) (given_at s f)
  unfolding given_at
  given_less z = turn_less s (e + 12) (f + 12) 8 (part_at s (e + 21) 15) (part_at s (f + 21) 15) o r z

  pub given_more : o ≡ Greater → Greater ≡ order_of (given_at s e) (given_at s f)
  unfolding given_at
  given_more z = turn_more s (e + 12) (f + 12) 8 (part_at s (e + 21) 15) (part_at s (f + 21) 15) o r z

  pub given_same : (n : Ordering) → o ≡ Equal → n ≡ order_of (part_at s (e + 21) 15) (part_at s (f + 21) 15) → n ≡ order_of (given_at s e) (given_at s f)
  unfolding given_at
  given_same n z y = turn_same s (e + 12) (f + 12) 8 (part_at s (e + 21) 15) (part_at s (f + 21) 15) o r n z y

pub ruleset for_given_order = (rules, given_less, given_more, given_same)

-- submitted_order
module _ (s : Text) (e f : ℕ) (o : Ordering) (r : o ≡ order_of (part_at s (e + 10) 1) (part_at s (f + 10) 1)) where
  pub submitted_less : o ≡ Less → Less ≡ order_of (submitted_at s e) (submitted_at s f)
  unfolding submitted_at
  submitted_less z = turn_less s (e + 10) (f + 10) 1 (given_at s e) (given_at s f) o r z

  pub submitted_more : o ≡ Greater → Greater ≡ order_of (submitted_at s e) (submitted_at s f)
  unfolding submitted_at
  submitted_more z = turn_more s (e + 10) (f + 10) 1 (given_at s e) (given_at s f) o r z

  pub submitted_same : (n : Ordering) → o ≡ Equal → n ≡ order_of (given_at s e) (given_at s f) → n ≡ order_of (submitted_at s e) (submitted_at s f)
  unfolding submitted_at
  submitted_same n z y = turn_same s (e + 10) (f + 10) 1 (given_at s e) (given_at s f) o r n z y

pub ruleset for_submitted_order = (rules, submitted_less, submitted_more, submitted_same)

-- event_order
event_is : (s : Text) (e : ℕ) → chart_event s e ≡ part_at s (e + 1) 9 ++ submitted_at s e
unfolding chart_event submitted_at given_at
event_is s e = refl

module _ (s : Text) (e f : ℕ) (o : Ordering) (r : o ≡ order_of (part_at s (e + 1) 9) (part_at s (f + 1) 9)) where
  pub event_less : o ≡ Less → Less ≡ order_of (chart_event s e) (chart_event s f)
  event_less z = rw (event_is s e, event_is s f) (turn_less s (e + 1) (f + 1) 9 (submitted_at s e) (submitted_at s f) o r z)

  pub event_more : o ≡ Greater → Greater ≡ order_of (chart_event s e) (chart_event s f)
  event_more z = rw (event_is s e, event_is s f) (turn_more s (e + 1) (f + 1) 9 (submitted_at s e) (submitted_at s f) o r z)

  pub event_same : (n : Ordering) → o ≡ Equal → n ≡ order_of (submitted_at s e) (submitted_at s f) → n ≡ order_of (chart_event s e) (chart_event s f)
  event_same n z y = rw (event_is s e, event_is s f) (turn_same s (e + 1) (f + 1) 9 (submitted_at s e) (submitted_at s f) o r n z y)

pub ruleset for_event_order = (rules, event_less, event_more, event_same)

-- one_event
module _ (a b : Text) (o : Ordering) (r : o ≡ order_of a b) where
  pub one_less : o ≡ Less → false ≡ same a b
  unfolding same
  one_less h = rw (← r, h)

  pub one_same : o ≡ Equal → true ≡ same a b
  unfolding same
  one_same h = rw (← r, h)

  pub one_more : o ≡ Greater → false ≡ same a b
  unfolding same
  one_more h = rw (← r, h)

pub ruleset for_one_event = (rules, one_less, one_same, one_more)
