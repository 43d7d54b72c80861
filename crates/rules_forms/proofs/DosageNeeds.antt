-- What each need of `is_dosage` asks, and of the functions that it calls: on a digit that is not 0, the digits at the front and the fraction.
-- Assumes nothing.
use mathlib.Core.Path.{◌≡◌, refl, sym, ap, ◌∙◌}
use mathlib.Core.Bool.{Bool, true, false, cond, ◌&&◌}
use mathlib.Core.List.{[], ◌∷◌}
use Prim.Native.Nat.{ℕ, ◌+◌, ◌-◌, ◌≤◌, ◌<◌}
use native.Mathlib.Nat.{add-zero}
use native.Mathlib.Omega.{arith}
use borrow.Author.Rules.{rules}
use borrow.Author.Tests.{ne_eqb}
use lib.ListN.{length, get_or, take, drop}
use Rattle.house.specs.Text.{Text, any, front, after_front, within, run, is_digit}
use Rattle.house.proofs.Suffix.{drop_here, drop_past, rest}
use Rattle.rules_definitions.specs.Forms.{is_fraction, is_dosage}
use Rattle.rules_forms.proofs.ClassLaws.{within_yes, within_low, within_high}
use Rattle.rules_forms.specs.TextLeaves.{digits_len}

-- A digit that is not 0
module _ (b : ℕ) where
  pub above_yes : 49 ≤ b → b < 58 → true ≡ within 49 57 b
  above_yes h k = sym (within_yes 49 57 b h (omega arith))

  pub above_low : b < 49 → false ≡ within 49 57 b
  above_low h = sym (within_low 49 57 b h)

  pub above_high : 58 ≤ b → false ≡ within 49 57 b
  above_high h = sym (within_high 49 57 b (omega arith))

pub ruleset for_above = (rules, above_yes, above_low, above_high)

-- any_above_zero
module _ (p : ℕ → Bool) (t : Text) (i : ℕ) (x : Bool) where
  module _ (inv : x ≡ any p (drop i t)) where
    module _ (h : i < length t) (y : Bool) (e : y ≡ p (get_or t i 0)) where
      pub any_hit : y ≡ true → true ≡ x
      any_hit f = rw (inv, drop_here t i h, ← e, f)

      pub any_on : y ≡ false → x ≡ any p (drop (i + 1) t)
      any_on f = rw (inv, drop_here t i h, ← e, f)

    pub any_end_lem : length t ≤ i → false ≡ x
    any_end_lem h = rw (inv, drop_past t i h)

pub ruleset for_any = (rules, any_hit, any_on, any_end_lem)

-- is_dosage
module _ (t : Text) (i x : ℕ) (inv : x ≡ i + digits_len (drop i t)) where
  module _ (h : i < length t) (y : Bool) (e : y ≡ is_digit (get_or t i 0)) where
    pub len_stop : y ≡ false → i ≡ x
    unfolding digits_len
    len_stop f = rw inv (simp (drop_here t i h, ← e, f, add-zero))

    pub len_on : y ≡ true → x ≡ i + 1 + digits_len (drop (i + 1) t)
    unfolding digits_len
    len_on f = rw inv (simp (drop_here t i h, ← e, f) (omega arith))

  pub len_end : length t ≤ i → i ≡ x
  unfolding digits_len
  len_end h = rw inv (simp (drop_past t i h, add-zero))

pub len_start : (t : Text) → digits_len t ≡ 0 + digits_len (drop 0 t)
len_start t = omega arith

pub ruleset for_digits_len = (rules, len_start, len_stop, len_end)

pub ruleset for_digits_on = (rules, len_on)

len_is : (t : Text) → length (front is_digit t) ≡ digits_len t
unfolding digits_len
len_is t = refl

after_is : (t : Text) → after_front is_digit t ≡ drop (digits_len t) t
unfolding digits_len
after_is [] = refl
after_is (b ∷ t) = go (is_digit b) (after_is t)
  where
    go : (x : Bool) → after_front is_digit t ≡ drop (length (front is_digit t)) t
        → cond x (after_front is_digit t) (b ∷ t) ≡ drop (length (cond x (b ∷ front is_digit t) [])) (b ∷ t)
    go true h = h
    go false h = refl

pub fraction_none : (t : Text) → length t ≡ 0 → true ≡ is_fraction t
unfolding is_fraction
fraction_none [] h = refl
fraction_none (b ∷ t) h = absurd (omega arith)

pub fraction_other : (t : Text) → (length t ≡ 0 → ⊥) → (get_or t 0 0 ≡ 46 → ⊥) → false ≡ is_fraction t
unfolding is_fraction
fraction_other [] h n = absurd (h refl)
fraction_other (b ∷ t) h n = rw (ne_eqb b 46 n)

pub fraction_point : (t : Text) (x : Bool) → (length t ≡ 0 → ⊥) → get_or t 0 0 ≡ 46 → x ≡ run 1 2 is_digit (take (length t - 1) (drop 1 t)) → x ≡ is_fraction t
unfolding is_fraction
fraction_point [] x h n e = absurd (h refl)
fraction_point (b ∷ t) x h n e = rw n (e ∙ ap (λ (s : Text). run 1 2 is_digit s) (rest (b ∷ t) 1))

pub ruleset for_fraction = (rules, fraction_none, fraction_other, fraction_point)

module _ (t : Text) (n : ℕ) (e : n ≡ digits_len t) where
  dosage_by : is_dosage t ≡ within 1 6 n && (is_fraction (take (length t - n) (drop n t)) && any (within 49 57) t)
  unfolding is_dosage
  dosage_by = rw (rest t n, e, ← after_is t, ← len_is t)

  pub dosage_low : n < 1 → false ≡ is_dosage t
  dosage_low h = rw (dosage_by, within_low 1 6 n h)

  pub dosage_high : 6 < n → false ≡ is_dosage t
  dosage_high h = rw (dosage_by, within_high 1 6 n h)

  module _ (l : 1 ≤ n) (m : n ≤ 6) (x : Bool) (f : x ≡ is_fraction (take (length t - n) (drop n t))) where
    pub dosage_not : x ≡ false → false ≡ is_dosage t
    dosage_not h = rw (dosage_by, within_yes 1 6 n l m, ← f, h)

    pub dosage_is : (y : Bool) → x ≡ true → y ≡ any (within 49 57) t → y ≡ is_dosage t
    dosage_is y h g = rw (dosage_by, within_yes 1 6 n l m, ← f, h) g

pub ruleset for_dosage = (rules, dosage_low, dosage_high, dosage_not, dosage_is)
