-- Numbers as texts: digit by digit, the number that they write, and how many they are.
-- Assumes nothing.
use mathlib.Core.Path.{◌≡◌, refl, sym, ap, ◌∙◌}
use mathlib.Core.Bool.{Bool, true, false}
use mathlib.Core.List.{[], ◌∷◌, ◌++◌}
use Prim.Native.Nat.{ℕ, zero, suc, ◌+◌, ◌/◌, ◌%◌, ◌≤◌, ◌<◌}
use native.Mathlib.Omega.{arith}
use borrow.Author.Rules.{rules}
use borrow.Author.Tests.{lt-ltb, le-ltb, ltb-true, ltb-false}
use lib.Dec.{ltb}
use lib.ListN.{length, length-append}
use Rattle.house.specs.Text.{Text}
use Rattle.writing.specs.Writing.{digits_within, decimal}

-- one digit, or a digit after others
within_small : (k n : ℕ) → n < 10 → digits_within (suc k) n ≡ (48 + n) ∷ []
within_small k n h = rw (lt-ltb n 10 h)

within_step : (k n : ℕ) → 10 ≤ n → digits_within (suc k) n ≡ digits_within k (n / 10) ++ ((48 + n % 10) ∷ [])
within_step k n h = rw (le-ltb n 10 h)

-- more digits than are needed alter nothing
enough : (k j n : ℕ) → n < k → n < j → digits_within k n ≡ digits_within j n
enough zero j n h i = absurd (omega arith)
enough (suc k) zero n h i = absurd (omega arith)
enough (suc k) (suc j) n h i = go (ltb n 10) refl (enough k j (n / 10))
  where
    go : (t : Bool) → ltb n 10 ≡ t → (n / 10 < k → n / 10 < j → digits_within k (n / 10) ≡ digits_within j (n / 10))
        → digits_within (suc k) n ≡ digits_within (suc j) n
    go true e r = within_small k n (ltb-true n 10 e) ∙ sym (within_small j n (ltb-true n 10 e))
    go false e r =
        let q : 10 ≤ n = ltb-false n 10 e in
        within_step k n q ∙ ap (λ (t : Text). t ++ ((48 + n % 10) ∷ [])) (r (omega arith) (omega arith)) ∙ sym (within_step j n q)

pub decimal_small : (n : ℕ) → n < 10 → decimal n ≡ (48 + n) ∷ []
unfolding decimal
decimal_small n h = within_small n n h

pub decimal_step : (n : ℕ) → 10 ≤ n → decimal n ≡ decimal (n / 10) ++ ((48 + n % 10) ∷ [])
unfolding decimal
decimal_step n h =
    within_step n n h ∙ ap (λ (t : Text). t ++ ((48 + n % 10) ∷ [])) (enough n (suc (n / 10)) (n / 10) (omega arith) (omega arith))

-- NUMBER_LENGTH

pub long_small : (n : ℕ) → n < 10 → length (decimal n) ≡ 1
long_small n h = ap length (decimal_small n h)

pub long_step : (n : ℕ) → 10 ≤ n → length (decimal n) ≡ length (decimal (n / 10)) + 1
long_step n h = ap length (decimal_step n h) ∙ length-append (decimal (n / 10)) ((48 + n % 10) ∷ [])

-- there is one at least
pub long_some : (n : ℕ) → 1 ≤ length (decimal n)
long_some n = go (ltb n 10) refl
  where
    go : (t : Bool) → ltb n 10 ≡ t → 1 ≤ length (decimal n)
    go true e = omega (arith, long_small n (ltb-true n 10 e))
    go false e = omega (arith, long_step n (ltb-false n 10 e))

pub long_start : (n : ℕ) → length (decimal n) + 1 ≡ 1 + length (decimal n)
long_start n = omega arith

module _ (n k m : ℕ) (inv : length (decimal n) + 1 ≡ k + length (decimal m)) where
  pub long_on : 10 ≤ m → length (decimal n) + 1 ≡ k + 1 + length (decimal (m / 10))
  long_on h = omega (arith, inv, long_step m h)

  pub long_end : m < 10 → k ≡ length (decimal n)
  long_end h = omega (arith, inv, long_small m h)

pub ruleset for_number_length = (rules, long_start, long_on, long_end)
