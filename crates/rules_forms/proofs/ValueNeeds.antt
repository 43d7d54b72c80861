-- What each need of the functions on the number in a text asks: `value` and `is_positive`.
-- Assumes nothing.
use mathlib.Core.Path.{◌≡◌, refl, sym, ◌∙◌}
use mathlib.Core.Bool.{Bool, true, false, cond, ◌&&◌}
use mathlib.Core.List.{[], ◌∷◌}
use Prim.Native.Nat.{ℕ, ◌+◌, ◌-◌, ◌*◌, ◌^◌, ◌≤◌, ◌<◌}
use native.Mathlib.Nat.{lt_of_lt_of_le, pow-le-pow_right}
use native.Mathlib.Numerals.{add-one}
use native.Mathlib.Omega.{arith}
use borrow.Author.Rules.{rules}
use borrow.Author.Tests.{leb-true}
use lib.Dec.{ltb, leb}
use lib.ListN.{length, get_or, drop}
use Rattle.house.specs.Text.{Text, all, run, digits, number, number_from, is_digit}
use Rattle.house.proofs.Small.{both}
use Rattle.house.proofs.Suffix.{drop_here, drop_past}
use Rattle.rules_definitions.specs.Forms.{count_form}
use Rattle.rules_forms.proofs.ClassLaws.{within_yes, run_long}
use Rattle.rules_forms.specs.TextLeaves.{value_of}

-- value: what it is, of the digits so far and of the bytes that follow
abbrev pub value_from : ℕ → Text → ℕ
value_from v t = cond (digits t) (number_from v t) 0

module _ (t : Text) where
  pub value_long : 9 < length t → 0 ≡ value_of t
  unfolding value_of
  value_long h = rw (← run_long t 1 9 is_digit h)

  pub value_start : length t ≤ 9 → value_of t ≡ value_from 0 (drop 0 t)
  unfolding value_of digits number run
  value_start h = go t h
    where
      go : (s : Text) → length s ≤ 9 → value_of s ≡ value_from 0 s
      go [] l = refl
      go (b ∷ s) l = rw (within_yes 1 9 (length (b ∷ s)) (omega arith) l)

module _ (b : ℕ) (y : Bool) (e : y ≡ is_digit b) (f : y ≡ true) where
  digit_range : (48 ≤ b) × (b ≤ 57)
  unfolding is_digit
  digit_range =
      let p = both (leb 48 b) (leb b 57) (sym e ∙ f) in
      (leb-true _ _ p.0, leb-true _ _ p.1)

  pub value_low : 48 ≤ b
  value_low = digit_range.0

  pub value_cast : b - 48 < 4294967296
  value_cast = omega (arith, digit_range.1)

  module _ (v i n : ℕ) (h : i < n) (l : n ≤ 9) (p : v < 10 ^ i) where
    small : v < 100000000
    small = lt_of_lt_of_le p (pow-le-pow_right {n = 10} (omega arith) {i = i} {j = 8} (omega arith))

    pub value_mul : v * 10 < 4294967296
    value_mul = omega (arith, small)

    pub value_add : v * 10 + (b - 48) < 4294967296
    value_add = omega (arith, small, digit_range.1)

    pub value_pow : v * 10 + (b - 48) < 10 ^ (i + 1)
    value_pow = rw add-one (omega (arith, p, digit_range.1))

module _ (t : Text) (i v x : ℕ) (inv : x ≡ value_from v (drop i t)) where
  module _ (h : i < length t) (y : Bool) (e : y ≡ is_digit (get_or t i 0)) where
    pub value_on : y ≡ true → x ≡ value_from (v * 10 + (get_or t i 0 - 48)) (drop (i + 1) t)
    unfolding digits
    value_on f = rw (inv, drop_here t i h, ← e, f)

    pub value_not : y ≡ false → 0 ≡ x
    unfolding digits
    value_not f = rw (inv, drop_here t i h, ← e, f)

  pub value_end : length t ≤ i → v ≡ x
  unfolding digits
  value_end h = rw (inv, drop_past t i h)

pub ruleset for_value = (rules, value_long, value_start, value_low, value_cast, value_mul, value_add, value_pow, value_on, value_not, value_end)

-- is_positive
module _ (t : Text) (most : ℕ) where
  pub positive_long : most < length t → false ≡ count_form most t
  unfolding count_form
  positive_long h = rw (← run_long t 1 most is_digit h)

  pub positive_is : (n : ℕ) → most ≤ 9 → length t ≤ most → n ≡ value_of t → ltb 0 n ≡ count_form most t
  unfolding count_form value_of run
  positive_is n m l e = rw e (go t l)
    where
      by : (z : Bool) (k : ℕ) → ltb 0 (cond z k 0) ≡ (z && ltb 0 k)
      by true k = refl
      by false k = refl

      go : (s : Text) → length s ≤ most → ltb 0 (value_of s) ≡ count_form most s
      go [] h = refl
      go (b ∷ s) h =
          rw (within_yes 1 9 (length (b ∷ s)) (omega arith) (omega arith), within_yes 1 most (length (b ∷ s)) (omega arith) h)
          (by (all is_digit (b ∷ s)) (number (b ∷ s)))

pub ruleset for_is_positive = (rules, positive_long, positive_is)
