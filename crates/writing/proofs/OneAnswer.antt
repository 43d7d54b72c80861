-- No second answer meets the contract of `number_length`.
-- Assumes nothing.
use mathlib.Core.Path.{◌≡◌}
use Prim.Native.Nat.{ℕ}
use lib.ListN.{length}
use Rattle.writing.specs.Writing.{decimal}

pub number_length_one : (n x y : ℕ) → x ≡ length (decimal n) → y ≡ length (decimal n) → x ≡ y
number_length_one n x y p q = cc
