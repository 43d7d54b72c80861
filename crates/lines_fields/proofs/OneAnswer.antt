-- No second answer meets the contract of a public function.
-- Assumes nothing.
use mathlib.Core.Path.{◌≡◌, sym, ◌∙◌}
use mathlib.Core.Bool.{Bool}
use mathlib.Core.List.{List}
use Prim.Native.Nat.{ℕ, ◌+◌}
use lib.ListN.{length, drop}
use Rattle.house.specs.Text.{Text}
use Rattle.lines_fields.specs.declared.LineAt.{LineAt}
use Rattle.lines_fields.specs.declared.FieldPlace.{FieldPlace}
use Rattle.lines_fields.specs.Lines.{line_of, fields_of, field_of, field_text, field_there, field_position, lines_len, fields_len, place_in, LineIs}
use Rattle.lines_fields.specs.Inside.{part}
use Rattle.lines_fields.specs.declared.Span.{Span}
use Rattle.lines_fields.specs.Marks.{judged_of, marks_in, marked_count, judged_in, judged_span}

one : {A : Type 0} {x r q : A} → r ≡ x → q ≡ x → r ≡ q
one e f = e ∙ sym f

line_at : (s : Text) (at : ℕ) (r q : LineAt) → LineIs s at r → LineIs s at q → r ≡ q
line_at s at r q e f = one e.exact f.exact

count_fields : (t : Text) (r q : ℕ) → r ≡ length (fields_of t) → q ≡ length (fields_of t) → r ≡ q
count_fields t r q = one

field_start : (t : Text) (f r q : ℕ) → r ≡ fields_len f t → q ≡ fields_len f t → r ≡ q
field_start t f r q = one

start_at : (s : Text) (at f r q : ℕ) → r ≡ at + fields_len f (line_of (drop at s)).text → q ≡ at + fields_len f (line_of (drop at s)).text → r ≡ q
start_at s at f r q = one

field_from_lem : (t : Text) (at : ℕ) (r q : Text) → r ≡ field_of (drop at t) 1 → q ≡ field_of (drop at t) 1 → r ≡ q
field_from_lem t at r q = one

field_of_lem : (t : Text) (f : ℕ) (r q : Text) → r ≡ field_of t f → q ≡ field_of t f → r ≡ q
field_of_lem t f r q = one

judged_at : (s : Text) (at f : ℕ) (r q : Text) → r ≡ judged_of (line_of (drop at s)).text f → q ≡ judged_of (line_of (drop at s)).text f → r ≡ q
judged_at s at f r q = one

judged_of_lem : (t : Text) (f : ℕ) (r q : Text) → r ≡ judged_of t f → q ≡ judged_of t f → r ≡ q
judged_of_lem t f r q = one

judged : (s : Text) (m : List ℕ) (f : ℕ) (r q : Text) → r ≡ judged_in s m f → q ≡ judged_in s m f → r ≡ q
judged s m f r q = one

judged_span_lem : (s : Text) (m : List ℕ) (f : ℕ) (r q : Span) → r ≡ judged_span s m f → q ≡ judged_span s m f → r ≡ q
judged_span_lem s m f r q = one

read_line : (s : Text) (at : ℕ) (m x y : List ℕ) (r q : LineAt) → LineIs s at r → x ≡ marks_in s at m → LineIs s at q → y ≡ marks_in s at m → (r ≡ q) × (x ≡ y)
read_line s at m x y r q e f g h = (one e.exact g.exact, one f h)

part_of_lem : (t : Text) (a e : ℕ) (r q : Text) → r ≡ part t a e → q ≡ part t a e → r ≡ q
part_of_lem t a e r q = one

field : (s : Text) (n f : ℕ) (r q : Text) → r ≡ field_text s n f → q ≡ field_text s n f → r ≡ q
field s n f r q = one

has_field : (s : Text) (n f : ℕ) (r q : Bool) → r ≡ field_there s n f → q ≡ field_there s n f → r ≡ q
has_field s n f r q = one

field_position_lem : (s : Text) (n f : ℕ) (r q : ℕ) → r ≡ field_position s n f → q ≡ field_position s n f → r ≡ q
field_position_lem s n f r q = one

lines_on : (s : Text) (at k r q : ℕ) → r ≡ at + lines_len k (drop at s) → q ≡ at + lines_len k (drop at s) → r ≡ q
lines_on s at k r q = one

find_field : (s : Text) (at f : ℕ) (r q : FieldPlace) → r ≡ place_in (line_of (drop at s)).text at f → q ≡ place_in (line_of (drop at s)).text at f → r ≡ q
find_field s at f r q = one

count_marked : (m : List ℕ) (r q : ℕ) → r ≡ marked_count m → q ≡ marked_count m → r ≡ q
count_marked m r q = one
