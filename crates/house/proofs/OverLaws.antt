-- A list written over the front of an area.
-- Assumes nothing.
use mathlib.Core.Path.{◌≡◌, refl, ap, ◌∙◌}
use mathlib.Core.List.{List, [], ◌∷◌, ◌++◌}
use Prim.Native.Nat.{ℕ, ◌≤◌}
use native.Mathlib.Omega.{arith}
use lib.ListN.{length, take, drop, set}
use lib.Seq.{take_at}
use borrow.Author.Rules.{rules}
use Rattle.house.specs.Over.{over}
use Rattle.house.proofs.Suffix.{set_past}

pub over_front : (xs out : List ℕ) → length xs ≤ length out → over xs out ≡ xs ++ drop (length xs) out
over_front [] out h = refl
over_front (x ∷ xs) [] h = absurd (omega arith)
over_front (x ∷ xs) (y ∷ out) h = ap (λ (l : List ℕ). x ∷ l) (over_front xs out (omega arith))

-- what is written is read there
pub over_taken : (xs out : List ℕ) (n : ℕ) → length xs ≡ n → length xs ≤ length out → take n (over xs out) ≡ xs
over_taken xs out n e h = ap (take n) (over_front xs out h) ∙ take_at xs (drop (length xs) out) n e

-- one more is written after the others
pub over_more : (xs : List ℕ) (x : ℕ) (out : List ℕ) → over (xs ++ (x ∷ [])) out ≡ set (over xs out) (length xs) x
over_more [] x [] = refl
over_more [] x (y ∷ out) = refl
over_more (z ∷ xs) x [] = refl
over_more (z ∷ xs) x (y ∷ out) = ap (λ (l : List ℕ). z ∷ l) (over_more xs x out)

-- the area keeps its length
pub length_over : (xs out : List ℕ) → length (over xs out) ≡ length out
length_over [] out = refl
length_over (x ∷ xs) [] = refl
length_over (x ∷ xs) (y ∷ out) = omega (arith, length_over xs out)

-- put
pub ruleset for_put = (rules, set_past)
