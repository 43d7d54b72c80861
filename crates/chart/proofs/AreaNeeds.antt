-- What each need of the functions that write bytes, texts and numbers asks.
-- Assumes nothing.
use mathlib.Core.Path.{◌≡◌, refl, sym, ap, ◌∙◌}
use mathlib.Core.Bool.{Bool, true, false}
use mathlib.Core.List.{List, [], ◌∷◌}
use Prim.Native.Nat.{ℕ, ◌+◌, ◌-◌, ◌/◌, ◌%◌, ◌≤◌, ◌<◌}
use native.Mathlib.Omega.{arith}
use borrow.Author.Rules.{rules}
use borrow.Author.Tests.{ltb-true, ltb-false}
use lib.Dec.{ltb}
use lib.ListN.{length, drop, get_or, set, length-set}
use Rattle.house.specs.Text.{Text}
use Rattle.house.proofs.Suffix.{drop_here, drop_past}
use Rattle.writing.specs.Writing.{over_from, decimal}
use Rattle.writing.proofs.OverLaws.{over_from_one, over_from_head, over_from_none, over_from_join, over_from_last, length_over_from}
use Rattle.writing.proofs.DecimalLaws.{decimal_small, decimal_step, long_small, long_step, long_some}
use Rattle.chart_definitions.specs.Submissions.{piped}

-- put_byte
pub byte_put : (out : List ℕ) (at b : ℕ) → set out at b ≡ over_from at (b ∷ []) out
byte_put out at b = sym (over_from_one at b out)

pub ruleset for_put_byte = (rules, byte_put)

-- put_text
pub text_start : (out t : List ℕ) (at : ℕ) → over_from at t out ≡ over_from (at + 0) (drop 0 t) out
text_start out t at = let e : at + 0 ≡ at = omega arith in sym (ap (λ (n : ℕ). over_from n t out) e)

module _ (x out t : List ℕ) (at i : ℕ) (inv : x ≡ over_from (at + i) (drop i t) out) where
  pub text_on : i < length t → x ≡ over_from (at + (i + 1)) (drop (i + 1) t) (set out (at + i) (get_or t i 0))
  text_on h =
      let e : at + i + 1 ≡ at + (i + 1) = omega arith in
      inv ∙ ap (λ (l : List ℕ). over_from (at + i) l out) (drop_here t i h) ∙ over_from_head (at + i) (get_or t i 0) (drop (i + 1) t) out
      ∙ ap (λ (n : ℕ). over_from n (drop (i + 1) t) (set out (at + i) (get_or t i 0))) e

  pub text_end : length t ≤ i → out ≡ x
  text_end h = sym (inv ∙ ap (λ (l : List ℕ). over_from (at + i) l out) (drop_past t i h) ∙ over_from_none (at + i) out)

pub ruleset for_put_text = (rules, text_start, text_on, text_end)

-- put_piped and put_piped_number
module _ (a b c t : List ℕ) (at end : ℕ) (p : b ≡ over_from at t a) (e : end ≡ at + length t) where
  pub piped_put : c ≡ over_from end (124 ∷ []) b → c ≡ over_from at (piped t) a
  piped_put q =
      q ∙ ap (λ (n : ℕ). over_from n (124 ∷ []) b) e ∙ ap (over_from (at + length t) (124 ∷ [])) p ∙ sym (over_from_join at t (124 ∷ []) a)

  pub piped_room : at + length t < length a → end < length b
  piped_room h = omega (arith, h, e, ap length p, length_over_from at t a)

  pub piped_next : (r : ℕ) → r ≡ end + 1 → r ≡ at + length t + 1
  piped_next r h = omega (arith, h, e)

pub ruleset for_put_piped = (rules, piped_put, piped_room, piped_next)

-- put_digits
module _ (x out : List ℕ) (at i m d : ℕ) (inv : x ≡ over_from at (decimal m) out) (l : i + 1 ≡ length (decimal m)) (e : d ≡ 48 + m % 10) where
  pub digits_on : 10 ≤ m → x ≡ over_from at (decimal (m / 10)) (set out (at + i) d)
  digits_on h =
      let k : length (decimal (m / 10)) ≡ i = omega (arith, l, long_step m h) in
      inv ∙ ap (λ (t : Text). over_from at t out) (decimal_step m h) ∙ over_from_last at (decimal (m / 10)) (48 + m % 10) out
      ∙ ap (λ (n : ℕ). over_from at (decimal (m / 10)) (set out (at + n) (48 + m % 10))) k
      ∙ ap (λ (b : ℕ). over_from at (decimal (m / 10)) (set out (at + i) b)) (sym e)

  pub digits_end : m < 10 → set out at d ≡ x
  digits_end h =
      let k : 48 + m ≡ d = omega (arith, e, h) in
      sym (inv ∙ ap (λ (t : Text). over_from at t out) (decimal_small m h) ∙ over_from_one at (48 + m) out ∙ ap (set out at) k)

-- of the digits so many are left, those of m
pub record Digiting (n at : ℕ) (before : List ℕ) (k m : ℕ) (out : List ℕ) : Type 0 where
  pub long : length out ≡ length before
  pub left : 0 < k → k ≡ length (decimal m)
  pub area_on : 0 < k → over_from at (decimal n) before ≡ over_from at (decimal m) out
  pub over : k ≡ 0 → out ≡ over_from at (decimal n) before

pub digits_start : (l n at : ℕ) (out : List ℕ) → l ≡ length (decimal n) → Digiting n at out l n out
digits_start l n at out e =
    record { long = refl; left = λ h. e; area_on = λ h. refl; over = λ z. absurd (omega (arith, e, z, long_some n)) }

module _ (n at i k m : ℕ) (before out : List ℕ) (g : Digiting n at before k m out) where
  digits_next : (d : ℕ) → k ≡ i + 1 → d ≡ 48 + m % 10 → Digiting n at before i (m / 10) (set out (at + i) d)
  digits_next d e q = go (ltb m 10) refl
    where
      l : i + 1 ≡ length (decimal m)
      l = omega (arith, e, g.left (omega (arith, e)))

      inv : over_from at (decimal n) before ≡ over_from at (decimal m) out
      inv = g.area_on (omega (arith, e))

      kept : length (set out (at + i) d) ≡ length before
      kept = length-set out (at + i) d ∙ g.long

      go : (v : Bool) → ltb m 10 ≡ v → Digiting n at before i (m / 10) (set out (at + i) d)
      go true z =
          let h : m < 10 = ltb-true m 10 z in
          let y : i ≡ 0 = omega (arith, l, long_small m h) in
          let w : at + i ≡ at = omega (arith, y) in
          record {
            long = kept;
            left = λ p. absurd (omega (arith, p, y));
            area_on = λ p. absurd (omega (arith, p, y));
            over = λ p. ap (λ (j : ℕ). set out j d) w ∙ digits_end (over_from at (decimal n) before) out at i m d inv l q h;
          }
      go false z =
          let h : 10 ≤ m = ltb-false m 10 z in
          record {
            long = kept;
            left = λ p. omega (arith, l, long_step m h);
            area_on = λ p. digits_on (over_from at (decimal n) before) out at i m d inv l q h;
            over = λ p. absurd (omega (arith, p, l, long_step m h, long_some (m / 10)));
          }

module _ (n at k m : ℕ) (before out : List ℕ) (g : Digiting n at before k m out) where
  pub digits_on_one : (d : ℕ) → 0 < k → d ≡ 48 + m % 10 → Digiting n at before (k - 1) (m / 10) (set out (at + (k - 1)) d)
  digits_on_one d h q = digits_next n at (k - 1) k m before out g d (omega (arith, h)) q

  pub digits_done : k ≡ 0 → out ≡ over_from at (decimal n) before
  digits_done z = g.over z

  pub digits_long : length out ≡ length before
  digits_long = g.long

pub ruleset for_put_digits = (rules, digits_start, digits_on_one, digits_done, digits_long)

pub ruleset for_put_number = (rules)
