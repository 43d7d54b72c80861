-- What each need of `count_few`, `few_from`, `count_fields`, `pass_over`, `field_start`, `pipe_from`, `field_of`, `field`, `has_field` and `field_position` asks.
-- Assumes nothing.
use mathlib.Core.Path.{◌≡◌, refl, sym, ap, ◌∙◌}
use mathlib.Core.Bool.{Bool, true, false, cond, not}
use mathlib.Core.List.{[], ◌∷◌, ◌++◌}
use Prim.Native.Nat.{ℕ, zero, suc, ◌+◌, ◌-◌, ◌≤◌, ◌<◌}
use native.Mathlib.Nat.{zero-add, add-zero}
use native.Mathlib.Numerals.{sub-one}
use native.Mathlib.Omega.{arith}
use borrow.Author.Rules.{rules}
use borrow.Author.Tests.{eq-eqb, ne_eqb, ltb-true, ltb-false}
use lib.Dec.{eqb, ltb}
use lib.ListN.{length, get_or, take, drop, length-drop, length-append}
use lib.Seq.{drop-drop, take-append_seam, drop-append_seam}
use Rattle.std.specs.Prelude.{Option, Some, None, position}
use Rattle.std.specs.List.{position_or_len}
use Rattle.house.specs.Text.{Text}
use Rattle.house.proofs.Small.{clash}
use Rattle.house.proofs.Suffix.{drop_here, drop_past, rest}
use Rattle.lines_fields.specs.Lines.{pipe, text_len, fields_of, field_of, text_at, is_there, field_text, field_there, lines_len, fields_len, field_position}
use Rattle.lines_fields.specs.Inside.{pipe_len}
use Rattle.lines_fields.proofs.LineLaws.{text_le, text_after}
use Rattle.lines_fields.proofs.FieldLaws.{lengthen_length, fields_few, fields_join, fields_pass, fields_first, fields_none, fields_le, field_first, start_zero}

-- count_few, count_fields: the count x, from a position i with n fields counted; a turn leaves m
pub count_holds : (t : Text) → length (fields_of t) ≡ 0 + length (fields_of t)
count_holds t = simp zero-add

module _ (t : Text) (i n x : ℕ) (inv : x ≡ n + length (fields_of (drop i t))) where
  module _ (m : ℕ) (h : i < length t) where
    pub count_pipe : get_or t i 0 ≡ pipe → m ≡ n + 1 → x ≡ m + length (fields_of (drop (i + 1) t))
    unfolding fields_of
    count_pipe e k = rw inv (simp (k, drop_here t i h, eq-eqb _ _ e) (omega arith))

    pub count_on : (get_or t i 0 ≡ pipe → ⊥) → m ≡ n → x ≡ m + length (fields_of (drop (i + 1) t))
    unfolding fields_of
    count_on e k = rw inv (simp (k, drop_here t i h, ne_eqb _ _ e, lengthen_length))

  pub count_end : length t ≤ i → n ≡ x
  unfolding fields_of
  count_end h = rw inv (simp (drop_past t i h, add-zero))

pub ruleset for_count_few = (rules, count_holds, count_pipe, count_on, count_end)

-- count_fields: a run u of the bytes that are left, of which k fields end
module _ (t s u r : Text) (n k : ℕ) (e : s ≡ u ++ r) (c : k ≡ length (fields_of u)) where
  pub run_on : length (fields_of t) ≡ n + length (fields_of s) → length (fields_of t) ≡ n + k + length (fields_of r)
  run_on inv = rw (inv, e, fields_join u r, ← c) (omega arith)

  pub run_few : n + length s ≤ length t → n + k + length r ≤ length t
  run_few h = omega (arith, c, fields_few u, ap length e, length-append u r)

pub run_end : (t s : Text) (n : ℕ) → length s ≡ 0 → length (fields_of t) ≡ n + length (fields_of s) → n ≡ length (fields_of t)
unfolding fields_of
run_end t [] n h e = rw (e, add-zero)
run_end t (b ∷ s) n h e = absurd (omega arith)

-- field_start: the start x, from a position i with f fields left
pub start_cons : (f b : ℕ) (t : Text) → (f ≡ 0 → ⊥) → fields_len f (b ∷ t) ≡ suc (cond (eqb b pipe) (fields_len (f - 1) t) (fields_len f t))
unfolding fields_len
start_cons zero b t n = absurd (n refl)
start_cons (suc f) b t n = rw sub-one

pub start_holds : (t : Text) (f : ℕ) → fields_len f t ≡ 0 + fields_len f t
start_holds t f = simp zero-add

pub start_none : (t : Text) (f : ℕ) → f ≡ 0 → 0 ≡ fields_len f t
start_none t f e = rw (e, start_zero)

module _ (t : Text) (i f x : ℕ) (o : 1 ≤ f) (inv : x ≡ i + fields_len f (drop i t)) where
  pub start_end : length t ≤ i → x ≤ length t → length t ≡ x
  unfolding fields_len
  start_end h l =
      let e : x ≡ i = rw inv (simp (drop_past t i h, add-zero)) in
      omega arith

  given : f ≡ 0 → ⊥
  given e = omega arith

  module _ (h : i < length t) where
    module _ (e : get_or t i 0 ≡ pipe) where
      over_pipe : x ≡ i + 1 + fields_len (f - 1) (drop (i + 1) t)
      over_pipe = rw (inv, drop_here t i h, start_cons f (get_or t i 0) (drop (i + 1) t) given, eq-eqb _ _ e) (omega arith)

      pub start_last : f ≡ 1 → i + 1 ≡ x
      start_last k = rw (over_pipe, k, start_zero, add-zero)

      pub start_pipe : (f ≡ 1 → ⊥) → x ≡ i + 1 + fields_len (f - 1) (drop (i + 1) t)
      start_pipe n = over_pipe

    pub start_on : (get_or t i 0 ≡ pipe → ⊥) → x ≡ i + 1 + fields_len f (drop (i + 1) t)
    start_on e = rw (inv, drop_here t i h, start_cons f (get_or t i 0) (drop (i + 1) t) given, ne_eqb _ _ e) (omega arith)

pub ruleset for_field_start = (rules, start_none, start_end, start_last, start_pipe, start_on)

-- pass_over: a run u of the bytes that are left, of which k fields end
module _ (t u r : Text) (i f k : ℕ) (q : drop i t ≡ u ++ r) (c : k ≡ length (fields_of u)) where
  pub pass_rest : r ≡ drop (i + length u) t
  pass_rest = sym (rw (← drop-drop (length u) i t, q) (drop-append_seam u r))

  pub pass_on : (x : ℕ) → k < f → x ≡ i + fields_len f (drop i t) → x ≡ i + length u + fields_len (f - k) (drop (i + length u) t)
  pass_on x l inv =
      let a : take (length u) (drop i t) ≡ u = rw q (take-append_seam u r) in
      let e : k ≡ length (fields_of (take (length u) (drop i t))) = rw a c in
      rw (inv, fields_pass (length u) f (drop i t) (omega (arith, ap length q, length-append u r)) (rw (← e) l), ← e, drop-drop (length u) i t) (omega arith)

pub pass_within : (t u r : Text) (i : ℕ) → drop i t ≡ u ++ r → length u ≡ 16 → i + length u ≤ length t
pass_within t u r i q e = omega (arith, ap length q, length-append u r, length-drop i t)

-- first_field: where its pipe stands
pipe_place : (t : Text) → position_or_len (λ b. eqb b 124) t ≡ pipe_len t
unfolding pipe_len
pipe_place [] = refl
pipe_place (b ∷ t) = go (eqb b 124) (pipe_place t)
  where
    go : (v : Bool) → position_or_len (λ b. eqb b 124) t ≡ pipe_len t → cond (not v) (1 + position_or_len (λ b. eqb b 124) t) 0 ≡ cond v 0 (suc (pipe_len t))
    go true e = refl
    go false e = omega (arith, e)

pipe_at : (t : Text) → cond (ltb (pipe_len t) (length t)) (Some (pipe_len t)) None ≡ position (λ b. eqb b 124) t
pipe_at t = rw (← pipe_place t) refl

module _ (t : Text) (r : Option ℕ) (p : r ≡ position (λ b. eqb b 124) t) where
  pub first_there : (n : ℕ) → r ≡ Some n → take n t ≡ field_of t 1
  unfolding field_of
  first_there n e = go (ltb (pipe_len t) (length t)) refl (pipe_at t ∙ sym p ∙ e)
    where
      go : (v : Bool) → ltb (pipe_len t) (length t) ≡ v → cond v (Some (pipe_len t)) None ≡ Some n → take n t ≡ field_of t 1
      go true h k =
          let z : pipe_len t ≡ n = cc in
          let l : pipe_len t < length t = ltb-true _ _ h in
          rw (fields_first t l, z)
      go false h k = absurd (cc)

  pub first_absent : r ≡ None → [] ≡ field_of t 1
  unfolding field_of
  first_absent e = go (ltb (pipe_len t) (length t)) refl (pipe_at t ∙ sym p ∙ e)
    where
      go : (v : Bool) → ltb (pipe_len t) (length t) ≡ v → cond v (Some (pipe_len t)) None ≡ None → [] ≡ field_of t 1
      go true h k = absurd (cc)
      go false h k = rw (fields_none t (ltb-false _ _ h))

-- field_of: the field's start a and end e
pub field_zero : (t : Text) (f : ℕ) → f ≡ 0 → [] ≡ field_of t f
unfolding field_of
field_zero t f e = rw e

pub field_pred : (t : Text) (f : ℕ) → (f ≡ 0 → ⊥) → field_of t f ≡ get_or (fields_of t) (f - 1) []
unfolding field_of
field_pred t zero n = absurd (n refl)
field_pred t (suc f) n = rw sub-one

module _ (t : Text) (f a : ℕ) (n : f ≡ 0 → ⊥) (p : a ≡ fields_len (f - 1) t) where
  pub field_start_in : a ≤ length t
  field_start_in = rw p (fields_le (f - 1) t)

  pub field_is_first : (r : Text) → r ≡ field_of (take (length t - a) (drop a t)) 1 → r ≡ field_of t f
  unfolding field_of
  field_is_first r e = e ∙ rw (rest t a, p) (sym (field_pred t f n ∙ field_first (f - 1) t))

pub ruleset for_field_of = (rules, field_zero, field_start_in, field_is_first)

-- field_from
pub from_past : (t : Text) (a : ℕ) → length t < a → [] ≡ field_of (drop a t) 1
unfolding field_of fields_of
from_past t a h = rw (drop_past t a (omega arith))

pub from_is : (t r : Text) (a : ℕ) → r ≡ field_of (take (length t - a) (drop a t)) 1 → r ≡ field_of (drop a t) 1
from_is t r a e = rw (← rest t a) e

pub ruleset for_field_from = (rules, from_past, from_is)

-- field, has_field
pub field_text_lem : (s : Text) (n f : ℕ) (t r : Text) → t ≡ text_at s n → r ≡ field_of t f → r ≡ field_text s n f
unfolding field_text
field_text_lem s n f t r x e = rw (← x) e

pub there_zero : (s : Text) (n f : ℕ) → f ≡ 0 → false ≡ field_there s n f
unfolding field_there is_there
there_zero s n f e = rw e

pub there_is : (s : Text) (n : ℕ) (t : Text) (m f : ℕ) → t ≡ text_at s n → m ≡ length (fields_of t) → (f ≡ 0 → ⊥) → ltb (f - 1) m ≡ field_there s n f
unfolding field_there is_there
there_is s n t m zero x e z = absurd (z refl)
there_is s n t m (suc f) x e z = rw (e, x, sub-one)

pub ruleset for_field = (rules, field_text_lem, there_zero, there_is)

-- field_position: of a field that is there, the line's start a and the field's start b in the line's text t
module _ (s : Text) (n f : ℕ) (y : Bool) (e : y ≡ field_there s n f) where
  pub position_none : y ≡ false → 0 ≡ field_position s n f
  unfolding field_position
  position_none h = rw (← e, h)

  module _ (h : y ≡ true) where
    pub line_one : 1 ≤ n
    unfolding field_there is_there text_at fields_of
    line_one = go n f (sym e ∙ h)
      where
        go : (m g : ℕ) → field_there s m g ≡ true → 1 ≤ m
        go zero zero k = clash (cc)
        go zero (suc g) k = absurd (omega (arith, ltb-true g 0 k))
        go (suc m) g k = omega arith

    pub field_one : 1 ≤ f
    unfolding field_there is_there
    field_one = go f (sym e ∙ h)
      where
        go : (g : ℕ) → field_there s n g ≡ true → 1 ≤ g
        go zero k = clash (cc)
        go (suc g) k = omega arith

    module _ (a b : ℕ) (t : Text) (p : a ≡ lines_len (n - 1) s) (x : t ≡ text_at s n) where
      pub position_fits : (k : ℕ) → b ≡ fields_len k t → a ≤ length s → length s < 18446744073709551616 → a + b < 18446744073709551616
      unfolding text_len
      position_fits k q i j =
          let l : length t ≡ text_len (drop a s) = rw (x, p, text_after s n (λ z. omega (arith, line_one))) in
          omega (arith, l, fields_le k t, text_le (drop a s), length-drop a s)

      pub position_is : b ≡ fields_len (f - 1) t → a + b ≡ field_position s n f
      unfolding field_position
      position_is q = rw (← e, h, p, q, x)

pub ruleset for_field_position = (rules, position_none, line_one, field_one, position_is, position_fits)
