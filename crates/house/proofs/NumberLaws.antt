-- What each need of the reader of numbers asks.
-- Assumes nothing.
use Prim.Native.Nat.{ℕ, ◌+◌, ◌*◌, ◌≤◌, ◌<◌}
use native.Mathlib.Omega.{arith}
use mathlib.Core.Path.{◌≡◌, sym, ap, ◌∙◌}
use mathlib.Core.Logic.{◌⊎◌, inl, inr}
use lib.ListN.{length, get_or, take}
use Rattle.std.specs.List.{slice_range}
use Rattle.std.proofs.lemmas.List.{get_or-take, get_or-drop}
use borrow.Author.Rules.{rules}
use borrow.Author.Tests.{le-leb, lt-leb}
use Rattle.house.specs.Text.{Text}
use Rattle.house.proofs.Suffix.{rest}
use Rattle.house.specs.Numbers.{four_bytes, number_at}

module _ (s : Text) (at : ℕ) where
  no_number_lem : length s < at + 4 → 0 ≡ number_at s at
  unfolding number_at
  no_number_lem h = sym (simp (lt-leb (at + 4) (length s) h))

  pub no_number_past : (length s < at) ⊎ (length s < length s) → 0 ≡ number_at s at
  no_number_past (inl h) = no_number_lem (omega arith)
  no_number_past (inr h) = absurd (omega arith)

  pub number_four : at + 4 ≤ length s → four_bytes s at ≡ number_at s at
  unfolding number_at
  number_four h = sym (simp (le-leb (at + 4) (length s) h))

  module _ (r : Text) (k : length r + at ≡ length s) where
    pub no_number_short : length r < 4 → 0 ≡ number_at s at
    no_number_short h = no_number_lem (omega arith)

    pub number_there : (b : Text) (n : ℕ) → r ≡ slice_range s at (length s) → 4 ≤ length r → b ≡ take 4 r
        → n ≡ get_or b 0 0 + get_or b 1 0 * 256 + get_or b 2 0 * 65536 + get_or b 3 0 * 16777216 → n ≡ number_at s at
    unfolding four_bytes
    number_there b n e h f g =
        let z : at + 4 ≤ length s = omega arith in
        let p : get_or b 0 0 ≡ get_or s at 0 = let o : at + 0 ≡ at = omega arith in each 0 (omega arith) ∙ ap (λ (j : ℕ). get_or s j 0) o in
        let q : get_or b 1 0 ≡ get_or s (at + 1) 0 = each 1 (omega arith) in
        let u : get_or b 2 0 ≡ get_or s (at + 2) 0 = each 2 (omega arith) in
        let v : get_or b 3 0 ≡ get_or s (at + 3) 0 = each 3 (omega arith) in
        omega (arith, number_four z)
      where
        each : (i : ℕ) → i < 4 → get_or b i 0 ≡ get_or s (at + i) 0
        each i l = rw (f, get_or-take 4 r i 0 l, e, rest s at, get_or-drop at s i 0)

pub ruleset for_numbers = (rules, no_number_past, no_number_short, number_there)
