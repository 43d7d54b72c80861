-- A list cut into pieces, and put together again.
-- Assumes nothing.
use mathlib.Core.Path.{◌≡◌, refl, ap, ◌∙◌}
use mathlib.Core.Bool.{Bool, true, false, not, cond}
use mathlib.Core.List.{List, [], ◌∷◌, ◌++◌}
use Rattle.house.specs.Text.{all, front, after_front, joined}
use Rattle.chart_definitions.specs.Lots.{pieces}

module _ {A : Type 0} (p : A → Bool) where
  -- a run from the start, and what follows it
  pub front_after : (xs : List A) → front p xs ++ after_front p xs ≡ xs
  front_after [] = refl
  front_after (x ∷ xs) = go (p x) (front_after xs)
    where
      go : (b : Bool) → front p xs ++ after_front p xs ≡ xs → cond b (x ∷ front p xs) [] ++ cond b (after_front p xs) (x ∷ xs) ≡ x ∷ xs
      go true e = ap (λ (ys : List A). x ∷ ys) e
      go false e = refl

  pub all_front : (xs : List A) → all p (front p xs) ≡ true
  all_front [] = refl
  all_front (x ∷ xs) = go (p x) refl (all_front xs)
    where
      go : (b : Bool) → p x ≡ b → all p (front p xs) ≡ true → all p (cond b (x ∷ front p xs) []) ≡ true
      go true e r = rw (e, r)
      go false e r = refl

-- PIECES

module _ {A : Type 0} (p : A → Bool) where
  -- the pieces are all from the first that passes on
  pub pieces_joined : (xs : List A) → joined (λ (ys : List A). ys) (pieces p xs) ≡ after_front (λ (y : A). not (p y)) xs
  pieces_joined [] = refl
  pieces_joined (x ∷ xs) = go (p x) (pieces_joined xs)
    where
      go : (b : Bool) → joined (λ (ys : List A). ys) (pieces p xs) ≡ after_front (λ (y : A). not (p y)) xs
          → joined (λ (ys : List A). ys) (cond b ((x ∷ front (λ (y : A). not (p y)) xs) ∷ pieces p xs) (pieces p xs))
          ≡ cond (not b) (after_front (λ (y : A). not (p y)) xs) (x ∷ xs)
      go true e = ap (λ (ys : List A). x ∷ (front (λ (y : A). not (p y)) xs ++ ys)) e ∙ ap (λ (ys : List A). x ∷ ys) (front_after (λ (y : A). not (p y)) xs)
      go false e = e

  -- where the first passes, they are the list
  pub pieces_whole : (x : A) (xs : List A) → p x ≡ true → joined (λ (ys : List A). ys) (pieces p (x ∷ xs)) ≡ x ∷ xs
  pieces_whole x xs e = pieces_joined (x ∷ xs) ∙ rw e
