-- No second answer meets the contract of a public function.
-- Assumes nothing.
use mathlib.Core.Path.{◌≡◌, sym, ◌∙◌}
use mathlib.Core.Bool.{Bool}
use mathlib.Core.List.{List}
use Prim.Native.Nat.{ℕ}
use Rattle.house.specs.Text.{Text}
use Rattle.ledger.specs.Ledger.{valid_of, found_in}
use Rattle.ledger.specs.Updates.{updated}
use Rattle.std.proofs.Common.{Option}

one : {A : Type 0} {x r q : A} → r ≡ x → q ≡ x → r ≡ q
one e f = e ∙ sym f

valid : (s : Text) (r q : Option ℕ) → r ≡ valid_of s → q ≡ valid_of s → r ≡ q
valid s r q = one

is_live : (s : Text) (n : ℕ) (k : Text) (r q : Bool) → r ≡ found_in s n k → q ≡ found_in s n k → r ≡ q
is_live s n k r q = one

-- the ledger left
update : (s : Text) (n : ℕ) (f : Text) (gs ds : List ℕ) (x y : Text) → x ≡ updated s n f gs ds → y ≡ updated s n f gs ds → x ≡ y
update s n f gs ds x y = one
