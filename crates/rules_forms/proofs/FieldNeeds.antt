-- What each need of the functions on a line's fields asks.
-- Assumes nothing.
use mathlib.Core.Path.{◌≡◌, refl}
use mathlib.Core.Bool.{Bool, true, false, not, cond, ◌&&◌, and-false}
use mathlib.Core.List.{[], ◌∷◌}
use Prim.Native.Nat.{ℕ}
use borrow.Author.Rules.{rules}
use borrow.Author.Tests.{ne_eqb}
use lib.Dec.{eqb}
use lib.ListN.{length}
use Rattle.house.specs.Text.{Text, is_empty, same}
use Rattle.rules_definitions.specs.Forms.{anything, table, form_of, is_judged}
use Rattle.rules_forms.specs.FieldLeaves.{out_of_province, relaxed_if, optional_in, lowest_in, sound_in, given_in, lacks_in}
use Rattle.rules_forms.proofs.FieldLaws.{empty_true, empty_false}

pub same_either : (b : Bool) → true ≡ cond b true true
same_either true = refl
same_either false = refl

-- form_of: a record of a kind by its own function, and the kinds that have none
module _ (k f : ℕ) (t : Text) where
  pub form_kind : (n : ℕ) (x : Bool) → k ≡ n → x ≡ form_of n f t → x ≡ form_of k f t
  form_kind n x e h = rw e h

  pub form_none : (k ≡ 2 → ⊥) → (k ≡ 3 → ⊥) → (k ≡ 4 → ⊥) → (k ≡ 5 → ⊥) → (k ≡ 6 → ⊥) → (k ≡ 7 → ⊥) → (k ≡ 8 → ⊥) → true ≡ form_of k f t
  unfolding form_of table anything
  form_none a b c d e g h =
      simp (ne_eqb k 2 a, ne_eqb k 3 b, ne_eqb k 4 c, ne_eqb k 5 d, ne_eqb k 6 e, ne_eqb k 7 g, ne_eqb k 8 h) (same_either (eqb k 1 && eqb f 2))

pub ruleset for_form_of = (rules, form_kind, form_none)

-- is_out_of_province
module _ (t w : Text) where
  module _ (h : length t ≡ 0) where
    pub province_none : length w ≡ 0 → false ≡ out_of_province t w
    unfolding out_of_province
    province_none k = simp (empty_true t h, empty_true w k)

    pub province_country : (length w ≡ 0 → ⊥) → true ≡ out_of_province t w
    unfolding out_of_province
    province_country k = simp (empty_true t h, empty_false w k)

  module _ (h : length t ≡ 0 → ⊥) (x : Bool) (e : x ≡ same t (65 ∷ 66 ∷ [])) where
    pub province_ab : x ≡ true → false ≡ out_of_province t w
    unfolding out_of_province
    province_ab k = simp (empty_false t h, ← e, k)

    pub province_other : x ≡ false → true ≡ out_of_province t w
    unfolding out_of_province
    province_other k = simp (empty_false t h, ← e, k)

pub ruleset for_is_out_of_province = (rules, province_none, province_country, province_ab, province_other)

-- relaxed
module _ (t5 t18 t19 t20 : Text) (x : Bool) (e : x ≡ same t5 (72 ∷ [])) where
  pub relaxed_h : x ≡ true → true ≡ relaxed_if t5 t18 t19 t20
  unfolding relaxed_if
  relaxed_h k = simp (← e, k)

  pub relaxed_20 : x ≡ false → (length t20 ≡ 0 → ⊥) → true ≡ relaxed_if t5 t18 t19 t20
  unfolding relaxed_if
  relaxed_20 n k = simp (← e, n, empty_false t20 k)

  pub relaxed_18 : (y : Bool) → x ≡ false → length t20 ≡ 0 → y ≡ out_of_province t18 t19 → y ≡ relaxed_if t5 t18 t19 t20
  unfolding relaxed_if
  relaxed_18 y n k p = simp (← e, n, empty_true t20 k) p

pub ruleset for_relaxed = (rules, relaxed_h, relaxed_20, relaxed_18)

-- rules1_and_2
module _ (k : ℕ) (relaxed : Bool) (f : ℕ) (t : Text) where
  module _ (n : length t ≡ 0 → ⊥) (y : Bool) (p : y ≡ form_of k f t) where
    there : is_judged k f && not (optional_in k relaxed f) && is_empty t ≡ false
    there = rw (empty_false t n) (and-false (is_judged k f && not (optional_in k relaxed f)))

    pub basic_sound : y ≡ true → 0 ≡ lowest_in k relaxed f t 0
    unfolding lowest_in
    basic_sound q = rw (there, ← p, q)

    pub rule2_misformed : y ≡ false → 2 ≡ lowest_in k relaxed f t 0
    unfolding lowest_in
    rule2_misformed q = rw (there, ← p, q, empty_false t n)

  module _ (h : length t ≡ 0) (x : Bool) (e : x ≡ is_judged k f) where
    empty_free : (b : Bool) → ◌≡◌ {A = ℕ} 0 (cond (not b && false) 2 0)
    empty_free true = refl
    empty_free false = refl

    pub basic_unjudged : x ≡ false → 0 ≡ lowest_in k relaxed f t 0
    unfolding lowest_in
    basic_unjudged g = rw (← e, g, empty_true t h) (empty_free (form_of k f t))

    module _ (g : x ≡ true) (y : Bool) (p : y ≡ optional_in k relaxed f) where
      pub basic_optional : y ≡ true → 0 ≡ lowest_in k relaxed f t 0
      unfolding lowest_in
      basic_optional q = rw (← e, g, ← p, q, empty_true t h) (empty_free (form_of k f t))

      pub rule1_missing : y ≡ false → 1 ≡ lowest_in k relaxed f t 0
      unfolding lowest_in
      rule1_missing q = rw (← e, g, ← p, q, empty_true t h)

pub ruleset for_basic = (rules, basic_unjudged, basic_optional, rule1_missing, basic_sound, rule2_misformed)

-- sound_text
pub sound_rule : (k : ℕ) (x : Bool) (f : ℕ) (t : Text) (r : ℕ) → r ≡ lowest_in k x f t 0 → eqb r 0 ≡ sound_in k x f t
unfolding sound_in
sound_rule k x f t r e = rw e

pub ruleset for_sound_text = (rules, sound_rule)

-- is_given, rule10_lacks
module _ (k f : ℕ) (t : Text) where
  pub given_empty : length t ≡ 0 → false ≡ given_in k f t
  unfolding given_in
  given_empty h = rw (empty_true t h)

  pub given_form : (x : Bool) → (length t ≡ 0 → ⊥) → x ≡ form_of k f t → x ≡ given_in k f t
  unfolding given_in
  given_form x n e = rw (empty_false t n) e

pub ruleset for_given = (rules, given_empty, given_form)

module _ (t : Text) (other : ℕ) (u : Text) where
  pub lacks_not : (length t ≡ 0 → ⊥) → false ≡ lacks_in t other u
  unfolding lacks_in
  lacks_not n = rw (empty_false t n)

  pub lacks_is : (x : Bool) → length t ≡ 0 → x ≡ given_in 4 other u → x ≡ lacks_in t other u
  unfolding lacks_in
  lacks_is x h e = rw (empty_true t h) e

pub ruleset for_rule10_lacks = (rules, lacks_not, lacks_is)
