-- What each need of the functions on classes and runs of bytes asks.
-- Assumes nothing.
use mathlib.Core.Path.{◌≡◌, sym}
use mathlib.Core.Bool.{Bool, true, false}
use Prim.Native.Nat.{ℕ, ◌+◌, ◌≤◌, ◌<◌}
use native.Mathlib.Omega.{arith}
use borrow.Author.Rules.{rules}
use lib.Dec.{eqb}
use lib.ListN.{length, get_or, drop}
use Rattle.house.specs.Text.{Text, all, is_digit, is_letter, is_letter_or_digit, is_graphic}
use Rattle.house.proofs.Suffix.{drop_here, drop_past}
use Rattle.rules_definitions.specs.Forms.{lot_byte}
use Rattle.rules_forms.proofs.ClassLaws.{within_yes, within_low, within_high, run_short, run_long, run_all}

-- Classes of bytes
module _ (b : ℕ) where
  pub digit_yes : 48 ≤ b → b < 58 → true ≡ is_digit b
  unfolding is_digit
  digit_yes h k = sym (within_yes 48 57 b h (omega arith))

  pub digit_low : b < 48 → false ≡ is_digit b
  unfolding is_digit
  digit_low h = sym (within_low 48 57 b h)

  pub digit_high : 58 ≤ b → false ≡ is_digit b
  unfolding is_digit
  digit_high h = sym (within_high 48 57 b (omega arith))

  pub graphic_yes : 33 ≤ b → b < 127 → true ≡ is_graphic b
  unfolding is_graphic
  graphic_yes h k = sym (within_yes 33 126 b h (omega arith))

  pub graphic_low : b < 33 → false ≡ is_graphic b
  unfolding is_graphic
  graphic_low h = sym (within_low 33 126 b h)

  pub graphic_high : 127 ≤ b → false ≡ is_graphic b
  unfolding is_graphic
  graphic_high h = sym (within_high 33 126 b (omega arith))

  pub letter_upper : 65 ≤ b → b < 91 → true ≡ is_letter b
  unfolding is_letter
  letter_upper h k = simp (within_yes 65 90 b h (omega arith))

  pub letter_lower : 97 ≤ b → b < 123 → true ≡ is_letter b
  unfolding is_letter
  letter_lower h k = simp (within_high 65 90 b (omega arith), within_yes 97 122 b h (omega arith))

  pub letter_low : b < 65 → false ≡ is_letter b
  unfolding is_letter
  letter_low h = simp (within_low 65 90 b h, within_low 97 122 b (omega arith))

  pub letter_mid : 91 ≤ b → b < 97 → false ≡ is_letter b
  unfolding is_letter
  letter_mid h k = simp (within_high 65 90 b (omega arith), within_low 97 122 b k)

  pub letter_high : 123 ≤ b → false ≡ is_letter b
  unfolding is_letter
  letter_high h = simp (within_high 65 90 b (omega arith), within_high 97 122 b (omega arith))

  module _ (x : Bool) (e : x ≡ is_letter b) where
    pub either_yes : x ≡ true → true ≡ is_letter_or_digit b
    unfolding is_letter_or_digit
    either_yes h = simp (← e, h)

    pub either_no : (y : Bool) → x ≡ false → y ≡ is_digit b → y ≡ is_letter_or_digit b
    unfolding is_letter_or_digit
    either_no y h k = simp (← e, h) k

  module _ (x : Bool) (e : x ≡ is_letter_or_digit b) where
    pub lot_yes : x ≡ true → true ≡ lot_byte b
    unfolding lot_byte
    lot_yes h = simp (← e, h)

    pub lot_no : x ≡ false → eqb b 45 ≡ lot_byte b
    unfolding lot_byte
    lot_no h = simp (← e, h)

pub ruleset for_byte = (rules, digit_yes, digit_low, digit_high, graphic_yes, graphic_low, graphic_high, letter_upper, letter_lower, letter_low, letter_mid, letter_high, either_yes, either_no, lot_yes, lot_no)

-- all_in
module _ (p : ℕ → Bool) (t : Text) (i : ℕ) (x : Bool) where
  module _ (inv : x ≡ all p (drop i t)) where
    module _ (h : i < length t) (y : Bool) (e : y ≡ p (get_or t i 0)) where
      pub all_not : y ≡ false → false ≡ x
      all_not f = rw (inv, drop_here t i h, ← e, f)

      pub all_on : y ≡ true → x ≡ all p (drop (i + 1) t)
      all_on f = rw (inv, drop_here t i h, ← e, f)

    pub all_end : length t ≤ i → true ≡ x
    all_end h = rw (inv, drop_past t i h)

pub ruleset for_bytes = (rules, all_not, all_on, all_end)

-- run_in
pub ruleset for_run = (rules, run_short, run_long, run_all)
