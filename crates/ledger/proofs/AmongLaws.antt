-- Whether an event is among others, by their order, and what is left once some are deleted.
-- Assumes nothing.
use mathlib.Core.Path.{◌≡◌, refl, ap, ◌∙◌, subst}
use mathlib.Core.Bool.{Bool, true, false, not, cond}
use mathlib.Core.List.{List, [], ◌∷◌, ◌++◌, append-nil}
use Rattle.house.specs.Text.{Text, those, same}
use Rattle.house.proofs.Decisions.{is_same_lem, not_same, below_irrefl}
use Rattle.lines_places.specs.Inside.{Lt, Over}
use Rattle.ledger.specs.Ledger.{is_among, less}
use Rattle.ledger.specs.Updates.{whole}

-- what stands above another is not the same
pub above_differs : (x y : Text) → Lt y x → same x y ≡ false
above_differs x y h = not_same x y (λ e. below_irrefl y (subst (Lt y) e h))

pub below_differs : (x y : Text) → Lt x y → same x y ≡ false
below_differs x y h = not_same x y (λ e. below_irrefl y (subst (λ (z : Text). Lt z y) e h))

module _ (x : Text) where
  -- the first is it; the first stands below it; all stand above it
  pub among_first : (y : Text) (ys : List Text) → x ≡ y → is_among (y ∷ ys) x ≡ true
  unfolding is_among
  among_first y ys e = rw (is_same_lem x y e)

  pub among_later : (y : Text) (ys : List Text) → Lt y x → is_among (y ∷ ys) x ≡ is_among ys x
  unfolding is_among
  among_later y ys h = rw (above_differs x y h)

  pub among_none : (ys : List Text) → Over whole x ys → is_among ys x ≡ false
  unfolding is_among
  among_none [] o = refl
  among_none (y ∷ ys) o = rw (below_differs x y o.0) (among_none ys o.1)

pub those_append : {A : Type 0} (p : A → Bool) (xs ys : List A) → those p (xs ++ ys) ≡ those p xs ++ those p ys
those_append p [] ys = refl
those_append {A} p (x ∷ xs) ys = go (p x) (those_append p xs ys)
  where
    go : (b : Bool) → those p (xs ++ ys) ≡ those p xs ++ those p ys → cond b (x ∷ those p (xs ++ ys)) (those p (xs ++ ys)) ≡ cond b (x ∷ those p xs) (those p xs) ++ those p ys
    go true r = ap (λ (l : List A). x ∷ l) r
    go false r = r

-- one more event looked at
module _ (ds xs : List Text) (x : Text) where
  pub less_kept : is_among ds x ≡ false → less ds (xs ++ (x ∷ [])) ≡ less ds xs ++ (x ∷ [])
  unfolding less
  less_kept h = those_append (λ (e : Text). not (is_among ds e)) xs (x ∷ []) ∙ rw h

  pub less_gone : is_among ds x ≡ true → less ds (xs ++ (x ∷ [])) ≡ less ds xs
  unfolding less
  less_gone h = those_append (λ (e : Text). not (is_among ds e)) xs (x ∷ []) ∙ rw (h, append-nil)
