-- Members of a list, for the statements of claims.
-- Assumes nothing.
use Rattle.std.specs.Prelude.{◌≡◌, ◌⊎◌, List, [], ◌∷◌}

module _ {A : Type 0} where
  -- x is an element of the list
  abbrev pub In : A → List A → Type 0
  In x [] = ⊥
  In x (y ∷ ys) = (x ≡ y) ⊎ In x ys

  -- no element stands twice
  abbrev pub Distinct : List A → Type 0
  Distinct [] = Unit {0}
  Distinct (x ∷ xs) = (In x xs → ⊥) × Distinct xs

  -- each element is in the relation to all that follow it
  abbrev pub Rising : (A → A → Type 0) → List A → Type 0
  Rising r [] = Unit {0}
  Rising r (x ∷ xs) = ((y : A) → In y xs → r x y) × Rising r xs
