-- What the reader of parts has to show.
-- Assumes nothing.
use Prim.Native.Nat.{ℕ, ◌+◌, ◌-◌, ◌≤◌, ◌<◌}
use native.Mathlib.Omega.{arith}
use mathlib.Core.Path.{◌≡◌, sym, ap, ◌∙◌}
use mathlib.Core.Bool.{true, false}
use mathlib.Core.List.{List}
use lib.ListN.{length}
use borrow.Author.Rules.{rules}
use borrow.Author.Tests.{le-leb, lt-leb}
use Rattle.house.specs.Numbers.{four_bytes, number_at}
use Rattle.house.proofs.NumberLaws.{number_four}
use Rattle.vectors_stream.specs.declared.Part.{Part}
use Rattle.vectors_stream.specs.Parts.{part_at, PartIs}

abbrev none : Part
none = record { start = 0; end = 0; whole = false }

module _ (s : List ℕ) (at : ℕ) where
  absent : part_at s at ≡ none → PartIs s at none
  absent e = record { exact = sym e; ordered = omega arith; within = omega arith; past = λ z. let q : ◌≡◌ {A = ℕ} 0 1 = cc in absurd (omega arith) }

  pub cut_short : length s < at + 4 → PartIs s at none
  unfolding part_at
  cut_short h = absent (simp (lt-leb (at + 4) (length s) h))

  pub too_short : length s < 4 → PartIs s at none
  too_short h = cut_short (omega arith)

  pub past_end : 4 ≤ length s → length s - 4 < at → PartIs s at none
  past_end h g = cut_short (omega arith)

  module _ (n : ℕ) (m : ℕ) (en : n ≡ m) (em : m ≡ number_at s at) (h : 4 ≤ length s) (g : at ≤ length s - 4) where
    e : n ≡ four_bytes s at
    e = let a : at + 4 ≤ length s = omega arith in en ∙ em ∙ sym (number_four s at a)

    pub too_long : length s - (at + 4) < n → PartIs s at none
    unfolding part_at
    too_long k =
        let a : at + 4 ≤ length s = omega arith in
        let b : length s - (at + 4) < four_bytes s at = rw (sym e) k in
        absent (simp (le-leb (at + 4) (length s) a, lt-leb (four_bytes s at) (length s - (at + 4)) b))

    pub whole_part : n ≤ length s - (at + 4) → PartIs s at (record { start = at + 4; end = at + 4 + n; whole = true })
    unfolding part_at
    whole_part k =
        let a : at + 4 ≤ length s = omega arith in
        let b : four_bytes s at ≤ length s - (at + 4) = rw (sym e) k in
        record {
          exact = ap (λ (m : ℕ). record { start = at + 4; end = at + 4 + m; whole = true }) e ∙ sym (simp (le-leb (at + 4) (length s) a, le-leb (four_bytes s at) (length s - (at + 4)) b));
          ordered = omega arith;
          within = omega arith;
          past = λ z. omega arith;
        }

pub ruleset for_parts = (rules, too_short, past_end, too_long, whole_part)
