-- The groups of sites are the list of document 01.
-- Assumes nothing.
use mathlib.Core.Path.{◌≡◌, refl, sym, ap, ◌∙◌, subst}
use mathlib.Core.Bool.{Bool, true, false, ◌||◌}
use mathlib.Core.Logic.{⊎_elim}
use mathlib.Core.List.{List, [], ◌∷◌, ◌++◌}
use lib.Dec.{T}
use Rattle.house.specs.Text.{Text, bytes, all, order_of, same, one_of}
use Rattle.house.proofs.Facts.{both, either, bool_ext}
use Rattle.house.proofs.Decisions.{same_is}
use Rattle.rules_definitions.specs.Codes.{arm_sites, leg_sites, gluteal_sites, other_sites, is_site}

-- Lists of the same texts in another order
all_there : (xs ys : List Text) (t : Text) → T (all (one_of ys) xs) → T (one_of xs t) → T (one_of ys t)
all_there [] ys t h k = absurd k
all_there (x ∷ xs) ys t h k =
    let g = both (one_of ys x) (all (one_of ys) xs) h in
    ⊎_elim (λ m. subst (λ (z : Text). T (one_of ys z)) (sym (same_is t x m)) g.0) (λ m. all_there xs ys t g.1 m) (either (same t x) (one_of xs t) k)

reordered : (xs ys : List Text) (t : Text) → T (all (one_of ys) xs) → T (all (one_of xs) ys) → one_of xs t ≡ one_of ys t
reordered xs ys t h k = bool_ext (one_of xs t) (one_of ys t) (all_there xs ys t h) (all_there ys xs t k)

-- Of two lists, one behind the other
of_both : (xs ys : List Text) (t : Text) → one_of (xs ++ ys) t ≡ one_of xs t || one_of ys t
of_both [] ys t = refl
of_both (x ∷ xs) ys t = go (same t x) (of_both xs ys t)
  where
    go : (b : Bool) → one_of (xs ++ ys) t ≡ one_of xs t || one_of ys t → b || one_of (xs ++ ys) t ≡ (b || one_of xs t) || one_of ys t
    go true e = refl
    go false e = e

-- "Sites (000, Table 14): LA LAF LAL LAU LDG LG LL LLL LLU LVG MO MS NO OTH RA RAF RAL RAU RDG RG RL RLL RLU RVG VE WO UNK."
abbrev all_sites : List Text
all_sites =
    bytes "LA" ∷ bytes "LAF" ∷ bytes "LAL" ∷ bytes "LAU" ∷ bytes "LDG" ∷ bytes "LG" ∷ bytes "LL" ∷ bytes "LLL" ∷ bytes "LLU" ∷ bytes "LVG"
    ∷ bytes "MO" ∷ bytes "MS" ∷ bytes "NO" ∷ bytes "OTH" ∷ bytes "RA" ∷ bytes "RAF" ∷ bytes "RAL" ∷ bytes "RAU" ∷ bytes "RDG" ∷ bytes "RG"
    ∷ bytes "RL" ∷ bytes "RLL" ∷ bytes "RLU" ∷ bytes "RVG" ∷ bytes "VE" ∷ bytes "WO" ∷ bytes "UNK" ∷ []

-- The groups have these sites, and no others
pub as_listed : (t : Text) → is_site t ≡ one_of all_sites t
unfolding is_site order_of same
as_listed t = sym groups ∙ reordered (arm_sites ++ leg_sites ++ gluteal_sites ++ other_sites) all_sites t tt tt
  where
    groups :
        one_of (arm_sites ++ leg_sites ++ gluteal_sites ++ other_sites) t
        ≡ one_of arm_sites t || one_of leg_sites t || one_of gluteal_sites t || one_of other_sites t
    groups =
        of_both (arm_sites ++ leg_sites ++ gluteal_sites) other_sites t
        ∙ ap (λ (b : Bool). b || one_of other_sites t)
        (of_both (arm_sites ++ leg_sites) gluteal_sites t ∙ ap (λ (b : Bool). b || one_of gluteal_sites t) (of_both arm_sites leg_sites t))
