-- What each need of `two_digits` asks: what digits write.
-- Assumes nothing.
use mathlib.Core.Path.{◌≡◌, refl, sym, ap, ◌∙◌}
use mathlib.Core.Bool.{Bool, true, false, ◌&&◌}
use mathlib.Core.List.{[], ◌∷◌}
use Prim.Native.Nat.{ℕ, zero, suc, ◌+◌, ◌-◌, ◌*◌, ◌≤◌, ◌<◌}
use native.Mathlib.Nat.{not-suc-le-zero, le_of_suc-le-suc}
use native.Mathlib.Omega.{arith}
use borrow.Author.Tests.{leb-true}
use borrow.Author.Rules.{rules}
use lib.Dec.{leb}
use lib.ListN.{length, get_or, take, drop}
use lib.Seq.{take_all}
use Rattle.house.specs.Text.{Text, all, is_digit, digits, number}
use Rattle.house.proofs.Suffix.{eight}
use Rattle.house.proofs.Small.{clash}

-- what digits tell of each
cons_digits : (b : ℕ) (s : Text) → digits (b ∷ s) ≡ true → (48 ≤ b) × (b ≤ 57) × (digits s ≡ true)
unfolding digits is_digit
cons_digits b s e = go (leb 48 b) (leb b 57) refl refl e
  where
    go : (u v : Bool) → leb 48 b ≡ u → leb b 57 ≡ v → (u && v && all is_digit s) ≡ true → (48 ≤ b) × (b ≤ 57) × (all is_digit s ≡ true)
    go false v p q e = clash (cc)
    go true false p q e = clash (cc)
    go true true p q e = (leb-true _ _ p, leb-true _ _ q, e)

pub digit_at : (t : Text) (i : ℕ) → i < length t → digits t ≡ true → (48 ≤ get_or t i 0) × (get_or t i 0 ≤ 57)
digit_at [] i h e = absurd (not-suc-le-zero h)
digit_at (b ∷ t) zero h e =
    let c = cons_digits b t e in
    (c.0, c.1)
digit_at (b ∷ t) (suc i) h e = digit_at t i (le_of_suc-le-suc h) (cons_digits b t e).2

-- two_digits
module _ (t : Text) (i : ℕ) (h : i + 1 < length t) (e : digits t ≡ true) where
  first : (48 ≤ get_or t i 0) × (get_or t i 0 ≤ 57)
  first = digit_at t i (omega arith) e

  second : (48 ≤ get_or t (i + 1) 0) × (get_or t (i + 1) 0 ≤ 57)
  second = digit_at t (i + 1) h e

  pub two_least : 528 ≤ get_or t i 0 * 10 + get_or t (i + 1) 0
  two_least = omega (arith, first.0, second.0)

  pub two_is : get_or t i 0 * 10 + get_or t (i + 1) 0 - 528 ≡ (get_or t i 0 - 48) * 10 + (get_or t (i + 1) 0 - 48)
  two_is = omega (arith, first.0, second.0)

  pub two_most : get_or t i 0 * 10 + get_or t (i + 1) 0 - 528 ≤ 99
  two_most = omega (arith, first.1, second.1)

  pub two_fit : get_or t i 0 * 10 + get_or t (i + 1) 0 < 4294967296
  two_fit = omega (arith, first.1, second.1)

  pub first_fit : get_or t i 0 < 4294967296
  first_fit = omega (arith, first.1)

  pub second_fit : get_or t (i + 1) 0 < 4294967296
  second_fit = omega (arith, second.1)

  pub ten_fit : get_or t i 0 * 10 < 4294967296
  ten_fit = omega (arith, first.1)

pub ruleset for_two_digits = (rules, two_least, two_is, two_most, two_fit, first_fit, second_fit, ten_fit)

-- eight digits, two by two
pub by_twos : (t : Text) → length t ≡ 8 → (a b m d : ℕ) → a ≡ (get_or t 0 0 - 48) * 10 + (get_or t 1 0 - 48) → b ≡ (get_or t 2 0 - 48) * 10 + (get_or t 3 0 - 48)
    → m ≡ (get_or t 4 0 - 48) * 10 + (get_or t 5 0 - 48) → d ≡ (get_or t 6 0 - 48) * 10 + (get_or t 7 0 - 48) → number t ≡ (a * 100 + b) * 10000 + m * 100 + d
unfolding number
by_twos t l a b m d ea eb em ed =
    let w : t ≡ take 8 (drop 0 t) = sym (take_all 8 t (omega arith)) in
    rw (ea, eb, em, ed) (ap number (w ∙ eight t 0 (omega arith)) ∙ omega arith)
