-- A list of cases, and what the returns of `is_site` and `is_method` ask.
-- Assumes nothing.
use mathlib.Core.Path.{◌≡◌, refl, ◌∙◌}
use mathlib.Core.Bool.{Bool, true, false, ◌||◌}
use mathlib.Core.List.{List, [], ◌∷◌}
use borrow.Author.Rules.{rules}
use Rattle.house.specs.Text.{Text, bytes, same, one_of}
use Rattle.rules_definitions.specs.Codes.{arm_sites, leg_sites, gluteal_sites, other_sites, is_site, is_method}

-- `same(t, a) | same(t, b) | ..` as code has it: from the left
abbrev or_from : Text → Bool → List Text → Bool
or_from t x [] = x
or_from t x (c ∷ cs) = or_from t (x || same t c) cs

abbrev pub cases : Text → List Text → Bool
cases t [] = false
cases t (c ∷ cs) = or_from t (same t c) cs

or_assoc : (x y z : Bool) → (x || y) || z ≡ x || (y || z)
or_assoc true y z = refl
or_assoc false y z = refl

or_from_lem : (t : Text) (x : Bool) (cs : List Text) → or_from t x cs ≡ x || one_of cs t
or_from_lem t true [] = refl
or_from_lem t false [] = refl
or_from_lem t x (c ∷ cs) = or_from_lem t (x || same t c) cs ∙ or_assoc x (same t c) (one_of cs t)

pub listed : (t : Text) (cs : List Text) (r : Bool) → r ≡ cases t cs → r ≡ one_of cs t
listed t [] r e = e
listed t (c ∷ cs) r e = e ∙ or_from_lem t (same t c) cs

-- is_method
abbrev method_texts : List Text
method_texts =
    bytes "G" ∷ bytes "ID" ∷ bytes "IM" ∷ bytes "IN" ∷ bytes "INF" ∷ bytes "IV" ∷ bytes "PO" ∷ bytes "SC" ∷ bytes "OTH" ∷ bytes "UNK" ∷ []

pub method_listed : (t : Text) (r : Bool) → r ≡ cases t method_texts → r ≡ is_method t
unfolding is_method
method_listed t r e = listed t method_texts r e

-- is_site
module _ (t : Text) (a : Bool) (p : a ≡ one_of arm_sites t) where
  pub site_arm : a ≡ true → true ≡ is_site t
  unfolding is_site
  site_arm h = rw (← p, h)

  module _ (f : a ≡ false) (b : Bool) (q : b ≡ one_of leg_sites t) where
    pub site_leg : b ≡ true → true ≡ is_site t
    unfolding is_site
    site_leg h = rw (← p, f, ← q, h)

    module _ (g : b ≡ false) (c : Bool) (r : c ≡ one_of gluteal_sites t) where
      pub site_gluteal : c ≡ true → true ≡ is_site t
      unfolding is_site
      site_gluteal h = rw (← p, f, ← q, g, ← r, h)

      pub site_other : c ≡ false → (d : Bool) → d ≡ one_of other_sites t → d ≡ is_site t
      unfolding is_site
      site_other h d s = rw (← p, f, ← q, g, ← r, h) s

pub ruleset for_is_site = (rules, site_arm, site_leg, site_gluteal, site_other)
