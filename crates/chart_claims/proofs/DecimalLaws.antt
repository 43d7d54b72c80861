-- A number in digits: it reads as the number, and has few digits where the number is small.
-- Assumes nothing.
use Prim.Native.Nat.{ℕ, zero, suc, ◌+◌, ◌-◌, ◌*◌, ◌/◌, ◌%◌, ◌≤◌, ◌<◌}
use native.Mathlib.Omega.{arith}
use native.Mathlib.Nat.{div-add-mod'}
use mathlib.Core.Path.{◌≡◌, refl, ◌∙◌}
use mathlib.Core.Bool.{Bool, true, false, cond}
use mathlib.Core.List.{[], ◌∷◌, ◌++◌}
use lib.Dec.{ltb}
use lib.ListN.{length, length-append}
use borrow.Author.Tests.{ltb-false, lt-ltb, le-leb}
use Rattle.house.specs.Text.{Text, is_empty, is_digit, run, digits, number_from, number}
use Rattle.writing.specs.Writing.{digits_within, decimal}
use Rattle.writing.proofs.DecimalLaws.{long_some}
use Rattle.lines.specs.Marks.{judged_text}
use Rattle.lines.proofs.MarkLaws.{judged_digits}
use Rattle.rules_definitions.specs.Forms.{count_form, is_number, is_total}
use Rattle.chart_claims.proofs.FieldLaws.{decimal_digits}

number_append : (n : ℕ) (t : Text) (d : ℕ) → number_from n (t ++ (d ∷ [])) ≡ number_from n t * 10 + (d - 48)
number_append n [] d = refl
number_append n (b ∷ t) d = number_append (n * 10 + (b - 48)) t d

number_step : (k n : ℕ) → (10 ≤ n → number_from 0 (digits_within k (n / 10)) ≡ n / 10) → number_from 0 (digits_within (suc k) n) ≡ n
number_step k n more = go (ltb n 10) refl
  where
    go : (b : Bool) → ltb n 10 ≡ b → number_from 0 (cond b ((48 + n) ∷ []) (digits_within k (n / 10) ++ ((48 + n % 10) ∷ []))) ≡ n
    go true e = omega arith
    go false e = number_append 0 (digits_within k (n / 10)) (48 + n % 10) ∙ rw (more (ltb-false n 10 e)) (omega (arith, div-add-mod' n 10))

number_digits : (k n : ℕ) → n ≤ k → number_from 0 (digits_within (suc k) n) ≡ n
number_digits zero n h = number_step zero n (λ l. absurd (omega arith))
number_digits (suc k) n h = number_step (suc k) n (λ l. number_digits k (n / 10) (omega arith))

pub decimal_number : (n : ℕ) → number (decimal n) ≡ n
unfolding number decimal
decimal_number n = number_digits n n (omega arith)

-- ten times itself so often
abbrev tens : ℕ → ℕ
tens zero = 1
tens (suc j) = 10 * tens j

few_step : (j k n : ℕ) → (10 ≤ n → length (digits_within k (n / 10)) ≤ j) → length (digits_within (suc k) n) ≤ suc j
few_step j k n more = go (ltb n 10) refl
  where
    go : (b : Bool) → ltb n 10 ≡ b → length (cond b ((48 + n) ∷ []) (digits_within k (n / 10) ++ ((48 + n % 10) ∷ []))) ≤ suc j
    go true e = omega arith
    go false e = omega (arith, length-append (digits_within k (n / 10)) ((48 + n % 10) ∷ []), more (ltb-false n 10 e))

digits_few : (j k n : ℕ) → n < tens (suc j) → length (digits_within k n) ≤ suc j
digits_few j zero n h = omega arith
digits_few zero (suc k) n h = few_step zero k n (λ l. absurd (omega arith))
digits_few (suc j) (suc k) n h = few_step (suc j) k n (λ l. digits_few j k (n / 10) (omega arith))

decimal_few : (j n : ℕ) → n < tens (suc j) → length (decimal n) ≤ suc j
unfolding decimal
decimal_few j n h = digits_few j (suc n) n h

decimal_run : (j n : ℕ) → n < tens (suc j) → run 1 (suc j) is_digit (decimal n) ≡ true
unfolding run
decimal_run j n h = rw (le-leb 1 (length (decimal n)) (long_some n), le-leb (length (decimal n)) (suc j) (decimal_few j n h), decimal_digits n)

-- "1 to 5 digits, at least 1"
pub decimal_form : (n : ℕ) → 1 ≤ n → n ≤ 99999 → is_number (decimal n) ≡ true
unfolding is_number count_form
decimal_form n l h = rw (decimal_run 4 n (omega arith), decimal_number n, lt-ltb 0 n (omega arith))

-- "1 to 10 digits"
pub decimal_total : (n : ℕ) → n ≤ 100002 → is_total (decimal n) ≡ true
unfolding is_total
decimal_total n h = decimal_run 9 n (omega arith)

pub some_empty : (t : Text) → 1 ≤ length t → is_empty t ≡ false
some_empty [] h = absurd (omega arith)
some_empty (b ∷ t) h = refl

pub decimal_given : (n : ℕ) → is_empty (decimal n) ≡ false
decimal_given n = some_empty (decimal n) (long_some n)

pub decimal_judged : (n : ℕ) → judged_text (decimal n) ≡ decimal n
unfolding digits
decimal_judged n = judged_digits (decimal n) (decimal_digits n)
