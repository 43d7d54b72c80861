-- No second answer meets the contract of a public function: each contract is an equation with what a definition gives.
-- Assumes nothing.
use mathlib.Core.Path.{◌≡◌, sym, ◌∙◌}
use mathlib.Core.Bool.{Bool}
use Prim.Native.Nat.{ℕ}
use Rattle.house.specs.Text.{Text, all, run, is_digit}

is_digit_lem : (b : ℕ) (r q : Bool) → r ≡ is_digit b → q ≡ is_digit b → r ≡ q
is_digit_lem b r q e f = e ∙ sym f

all_in_lem : (t : Text) (p : ℕ → Bool) (r q : Bool) → r ≡ all p t → q ≡ all p t → r ≡ q
all_in_lem t p r q e f = e ∙ sym f

run_in : (t : Text) (lo hi : ℕ) (p : ℕ → Bool) (r q : Bool) → r ≡ run lo hi p t → q ≡ run lo hi p t → r ≡ q
run_in t lo hi p r q e f = e ∙ sym f
