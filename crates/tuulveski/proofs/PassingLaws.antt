-- One pass over a file: the proofs of specs/Passing.
-- Assumes nothing.
use mathlib.Core.Path.{◌≡◌, refl, sym}
use mathlib.Core.Bool.{Bool, true, false, cond}
use Prim.Native.Nat.{ℕ, ◌+◌, ◌-◌, ◌≤◌}
use native.Mathlib.Omega.{arith}
use borrow.Author.Tests.{ltb-false}
use lib.Dec.{ltb}
use lib.ListN.{drop}
use Rattle.house.specs.Text.{Text}
use Rattle.lines.specs.Lines.{text_at, field_text, field_there, lines_len, field_position, place_in}
use Rattle.lines.proofs.LineLaws.{text_after, lines_more}
use Rattle.tuulveski.specs.Interface.{line_from, text_from, field_at, field_from}
use Rattle.tuulveski.specs.Passing.{line_in, OnePass}

first_line : (file : Text) → line_in file 1 ≡ record { line = 1; start = 0 }
unfolding line_in lines_len
first_line file = refl

later_number : (n m : ℕ) → n ≤ m → cond (ltb n m) m n ≡ m
later_number n m h = go (ltb n m) refl
  where
    go : (v : Bool) → ltb n m ≡ v → cond v m n ≡ m
    go true e = refl
    go false e = omega (arith, ltb-false n m e)

later_start : (file : Text) (n m : ℕ) → 1 ≤ n → n ≤ m → lines_len (n - 1) file + lines_len (m - n) (drop (lines_len (n - 1) file) file) ≡ lines_len (m - 1) file
later_start file n m o h =
    let e : m - 1 ≡ n - 1 + (m - n) = omega arith in
    rw e (sym (lines_more (n - 1) (m - n) file))

later_line : (file : Text) (n m : ℕ) → 1 ≤ n → n ≤ m → line_from file (line_in file n).start n m ≡ line_in file m
unfolding line_from line_in
later_line file n m o h = rw (later_number n m h, later_start file n m o h)

same_text : (file : Text) (n : ℕ) → 1 ≤ n → text_from file (lines_len (n - 1) file) ≡ text_at file n
same_text file n o = sym (text_after file n (λ z. omega arith))

same_field : (file : Text) (n f : ℕ) → 1 ≤ n → field_from file (line_in file n).start f ≡ field_at file n f
unfolding field_from field_at line_in field_there field_position field_text place_in
same_field file n f o = rw (same_text file n o)

pub one_pass : OnePass
one_pass = record { first = first_line; later = later_line; fields = same_field }
