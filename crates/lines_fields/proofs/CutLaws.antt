-- Parts of a text, from one position to another.
-- Assumes nothing.
use mathlib.Core.Path.{◌≡◌}
use mathlib.Core.List.{[], ◌∷◌, ◌++◌}
use Prim.Native.Nat.{ℕ, zero, suc, ◌+◌, ◌-◌, ◌≤◌}
use native.Mathlib.Omega.{arith}
use lib.ListN.{take, drop}
use lib.Seq.{drop-drop, drop-nil, take-nil, take-add}
use Rattle.house.specs.Text.{Text}
use Rattle.lines_fields.specs.Inside.{part}

pub part_empty : (s : Text) (p : ℕ) → part s p p ≡ []
part_empty s p = let e : p - p ≡ 0 = omega arith in rw e

pub part_start : (s : Text) (n : ℕ) → part s 0 n ≡ take n s
part_start s n = let e : n - 0 ≡ n = omega arith in rw e

pub part_drop : (s : Text) (p n : ℕ) → part s p n ≡ drop p (take n s)
part_drop s zero n = part_start s n
part_drop [] (suc p) n = simp (take-nil, drop-nil)
part_drop (b ∷ s) (suc p) zero = let e : 0 - suc p ≡ 0 = omega arith in rw e
part_drop (b ∷ s) (suc p) (suc n) = let e : suc n - suc p ≡ n - p = omega arith in rw e (part_drop s p n)

pub part_split : (s : Text) (p at next : ℕ) → p ≤ at → at ≤ next → part s p next ≡ part s p at ++ part s at next
part_split s p at next h k =
    let e : next - p ≡ (at - p) + (next - at) = omega arith in
    let f : p + (at - p) ≡ at = omega arith in
    rw (e, take-add, drop-drop, f)
