-- No second answer meets the contract of a public function.
-- Assumes nothing.
use mathlib.Core.Path.{◌≡◌, sym, ◌∙◌}
use mathlib.Core.Bool.{Bool}
use Prim.Native.Nat.{ℕ}
use Rattle.house.specs.Text.{Text}
use Rattle.lines.specs.Records.{record_of}
use Rattle.lines.specs.declared.Cause.{Cause}
use Rattle.lines.specs.Shape.{Shape, shape_of, follows, number_of}

one : {A : Type 0} {x r q : A} → r ≡ x → q ≡ x → r ≡ q
one e f = e ∙ sym f

shape_of_lem : (s : Text) (r q : Shape) → r ≡ shape_of s → q ≡ shape_of s → r ≡ q
shape_of_lem s r q = one

kind_of_lem : (t : Text) (r q : ℕ) → r ≡ record_of t → q ≡ record_of t → r ≡ q
kind_of_lem t r q = one

may_follow : (p k : ℕ) (r q : Bool) → r ≡ follows p k → q ≡ follows p k → r ≡ q
may_follow p k r q = one

number : (c : Cause) (r q : ℕ) → r ≡ number_of c → q ≡ number_of c → r ≡ q
number c r q = one
