-- Writing over an area, from a position on: piece by piece, and byte by byte.
-- Assumes nothing.
use mathlib.Core.Path.{◌≡◌, refl, sym, ap, ◌∙◌}
use mathlib.Core.List.{List, [], ◌∷◌, ◌++◌}
use Prim.Native.Nat.{ℕ, zero, suc, ◌+◌, ◌≤◌}
use native.Mathlib.Omega.{arith}
use lib.ListN.{length, set, drop}
use Rattle.house.specs.Over.{over}
use Rattle.house.proofs.OverLaws.{over_front, length_over}
use Rattle.writing.specs.Writing.{over_from}

pub length_over_from : (n : ℕ) (xs out : List ℕ) → length (over_from n xs out) ≡ length out
length_over_from zero xs out = length_over xs out
length_over_from (suc n) xs [] = refl
length_over_from (suc n) xs (y ∷ out) = omega (arith, length_over_from n xs out)

pub over_from_none : (n : ℕ) (out : List ℕ) → over_from n [] out ≡ out
over_from_none zero out = refl
over_from_none (suc n) [] = refl
over_from_none (suc n) (y ∷ out) = ap (λ (l : List ℕ). y ∷ l) (over_from_none n out)

over_join : (xs ys out : List ℕ) → over (xs ++ ys) out ≡ over_from (length xs) ys (over xs out)
over_join [] ys out = refl
over_join (x ∷ xs) ys [] = refl
over_join (x ∷ xs) ys (y ∷ out) = ap (λ (l : List ℕ). x ∷ l) (over_join xs ys out)

-- one piece and then the next
pub over_from_join : (n : ℕ) (xs ys out : List ℕ) → over_from n (xs ++ ys) out ≡ over_from (n + length xs) ys (over_from n xs out)
over_from_join zero xs ys out =
    let e : 0 + length xs ≡ length xs = omega arith in
    over_join xs ys out ∙ sym (ap (λ (m : ℕ). over_from m ys (over xs out)) e)
over_from_join (suc n) xs ys [] =
    let e : suc n + length xs ≡ suc (n + length xs) = omega arith in
    sym (ap (λ (m : ℕ). over_from m ys []) e)
over_from_join (suc n) xs ys (y ∷ out) =
    let e : suc n + length xs ≡ suc (n + length xs) = omega arith in
    ap (λ (l : List ℕ). y ∷ l) (over_from_join n xs ys out) ∙ sym (ap (λ (m : ℕ). over_from m ys (y ∷ over_from n xs out)) e)

-- one byte
pub over_from_one : (n x : ℕ) (out : List ℕ) → over_from n (x ∷ []) out ≡ set out n x
over_from_one zero x [] = refl
over_from_one zero x (y ∷ out) = refl
over_from_one (suc n) x [] = refl
over_from_one (suc n) x (y ∷ out) = ap (λ (l : List ℕ). y ∷ l) (over_from_one n x out)

-- its first byte and then the rest
pub over_from_head : (n x : ℕ) (xs out : List ℕ) → over_from n (x ∷ xs) out ≡ over_from (n + 1) xs (set out n x)
over_from_head n x xs out = over_from_join n (x ∷ []) xs out ∙ ap (over_from (n + 1) xs) (over_from_one n x out)

-- its last byte first: where it fits, the order in which bytes are written does not matter
over_last : (xs : List ℕ) (x : ℕ) (out : List ℕ) → over (xs ++ (x ∷ [])) out ≡ over xs (set out (length xs) x)
over_last [] x [] = refl
over_last [] x (y ∷ out) = refl
over_last (z ∷ xs) x [] = refl
over_last (z ∷ xs) x (y ∷ out) = ap (λ (l : List ℕ). z ∷ l) (over_last xs x out)

pub over_from_last : (n : ℕ) (xs : List ℕ) (x : ℕ) (out : List ℕ) → over_from n (xs ++ (x ∷ [])) out ≡ over_from n xs (set out (n + length xs) x)
over_from_last zero xs x out =
    let e : 0 + length xs ≡ length xs = omega arith in
    over_last xs x out ∙ sym (ap (λ (m : ℕ). over xs (set out m x)) e)
over_from_last (suc n) xs x [] = refl
over_from_last (suc n) xs x (y ∷ out) =
    let e : suc n + length xs ≡ suc (n + length xs) = omega arith in
    ap (λ (l : List ℕ). y ∷ l) (over_from_last n xs x out) ∙ sym (ap (λ (m : ℕ). over_from (suc n) xs (set (y ∷ out) m x)) e)

-- from the start on, a list that fits
pub over_from_start : (xs out : List ℕ) → length xs ≤ length out → over_from 0 xs out ≡ xs ++ drop (length xs) out
over_from_start xs out h = over_front xs out h
