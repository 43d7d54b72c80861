-- No second answer meets the contract of a public function.
-- Assumes nothing.
use mathlib.Core.Path.{◌≡◌, sym, ◌∙◌}
use mathlib.Core.Bool.{Bool}
use mathlib.Core.List.{List}
use Prim.Native.Nat.{ℕ}
use lib.ListN.{get_or}
use Rattle.house.specs.Text.{Text}
use Rattle.chart_definitions.specs.Charts.{record_kind, widths_of, body_width, is_chart}
use Rattle.chart_records.specs.Reading.{record_end, fits_in, measured, notes_of, noted_end}

one : {A : Type 0} {x r q : A} → r ≡ x → q ≡ x → r ≡ q
one e f = e ∙ sym f

kind_at : (s : Text) (at r q : ℕ) → r ≡ record_kind (get_or s at 0) → q ≡ record_kind (get_or s at 0) → r ≡ q
kind_at s at r q = one

body_width_lem : (k r q : ℕ) → r ≡ body_width k → q ≡ body_width k → r ≡ q
body_width_lem k r q = one

record_end_lem : (s : Text) (at r q : ℕ) → r ≡ record_end s at → q ≡ record_end s at → r ≡ q
record_end_lem s at r q = one

widths_of_lem : (k : ℕ) (r q : List ℕ) → r ≡ widths_of k → q ≡ widths_of k → r ≡ q
widths_of_lem k r q = one

is_chart_lem : (s : Text) (r q : Bool) → r ≡ is_chart s → q ≡ is_chart s → r ≡ q
is_chart_lem s r q = one

fits : (s : Text) (room : ℕ) (r q : Bool) → r ≡ fits_in s room → q ≡ fits_in s room → r ≡ q
fits s room r q = one

measure : (s : Text) (room : ℕ) (ns : List ℕ) (r q : ℕ) (after later : List ℕ) → r ≡ measured s room → q ≡ measured s room
    → after ≡ notes_of s ns → later ≡ notes_of s ns → (r ≡ q) × (after ≡ later)
measure s room ns r q after later e f g h = (one e f, one g h)

noted_end_lem : (s : Text) (ns : List ℕ) (at r q : ℕ) → r ≡ noted_end s ns at → q ≡ noted_end s ns at → r ≡ q
noted_end_lem s ns at r q = one
