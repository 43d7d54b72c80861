-- Working definition: what the test of a class, which the functions on runs take, computes. No public contract rests on this page.
-- Assumes nothing.
use Rattle.std.specs.Prelude.{ℕ, Bool, ◌≡◌}

-- the test gives of each byte what p gives
abbrev pub Computes : (ℕ → Bool → Type 0) → (ℕ → Bool) → Type 0
Computes post p = (b : ℕ) (x : Bool) → post b x → x ≡ p b
