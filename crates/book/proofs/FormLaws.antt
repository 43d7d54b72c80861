-- Forms of an entry: what each need of the reader, and of `first_ok` to `body_ok`, asks.
-- Assumes nothing.
use mathlib.Core.Path.{◌≡◌, sym, ap, ◌∙◌}
use mathlib.Core.Bool.{Bool, true, false}
use Prim.Native.Nat.{ℕ, ◌+◌, ◌-◌, ◌≤◌, ◌<◌}
use native.Mathlib.Omega.{arith}
use borrow.Author.Tests.{ne_eqb, le-leb, lt-leb}
use borrow.Author.Rules.{rules}
use lib.ListN.{length, get_or, take, drop, length-drop}
use lib.Seq.{length-take-le}
use Rattle.house.specs.Text.{Text, digits, is_padded}
use Rattle.dates.specs.Dates.{is_end, dated_of}
use Rattle.dates.specs.declared.Date.{Date}
use Rattle.house.proofs.Suffix.{drop_here, drop_past, rest}
use Rattle.dates.proofs.DateLaws.{dated_true, dated_false}
use Rattle.book.specs.declared.Read.TheVariants as read
use Rattle.book.specs.Book.{first_width, start_width, code_width, body_width, first_form, second_form, code_form, start_form, dates_form, body_form, is_whole, read_at}
use Rattle.book.proofs.WidthLaws.{code_parts, body_parts}
use Rattle.std.proofs.Common.{Option, Some, None}

-- the reader
module _ (at : ℕ) (s : Text) where
  pub read_end : length s ≤ at → read.End ≡ read_at at (drop at s)
  unfolding read_at
  read_end h = rw (drop_past s at h)

  module _ (h : at < length s) where
    pub read_zero : get_or s at 0 < 1 → read.Malformed ≡ read_at at (drop at s)
    unfolding read_at is_whole
    read_zero l = rw (drop_here s at h) (simp (lt-leb _ _ l))

    pub read_high : 1 ≤ get_or s at 0 → 8 < get_or s at 0 → read.Malformed ≡ read_at at (drop at s)
    unfolding read_at is_whole
    read_high n l = rw (drop_here s at h) (simp (le-leb _ _ n, lt-leb _ _ l))

    module _ (n : 1 ≤ get_or s at 0) (l : get_or s at 0 ≤ 8) (w : ℕ) (e : w ≡ body_width (get_or s at 0)) where
      pub read_short : length s - (at + 1) < w → read.Malformed ≡ read_at at (drop at s)
      unfolding read_at is_whole
      read_short g = rw (drop_here s at h) (simp (le-leb _ _ n, le-leb _ _ l, ← e, length-drop, lt-leb _ _ g))

      pub read_entry : w ≤ length s - (at + 1) → read.Entry (get_or s at 0) (at + 1) (record { at = at + 1 + w }) ≡ read_at at (drop at s)
      unfolding read_at is_whole
      read_entry g = rw (drop_here s at h) (simp (le-leb _ _ n, le-leb _ _ l, ← e, length-drop, le-leb _ _ g))

pub ruleset for_read = (rules, read_end, read_zero, read_high, read_short, read_entry)

-- the codes and the start
module _ (k : ℕ) (t : Text) where
  module _ (r : Bool) where
    pub first_digits : k ≡ 3 → r ≡ digits t → r ≡ first_form k t
    unfolding first_form
    first_digits e h = rw e h

    pub first_padded : (k ≡ 3 → ⊥) → r ≡ is_padded t → r ≡ first_form k t
    unfolding first_form
    first_padded n h = rw (ne_eqb _ _ n) h

    pub second_digits : k ≡ 7 → r ≡ digits t → r ≡ second_form k t
    unfolding second_form
    second_digits e h = rw e h

    pub second_padded : k ≡ 8 → r ≡ is_padded t → r ≡ second_form k t
    unfolding second_form
    second_padded e h = rw e h

  pub second_free : (k ≡ 7 → ⊥) → (k ≡ 8 → ⊥) → true ≡ second_form k t
  unfolding second_form
  second_free n m = simp (ne_eqb _ _ n, ne_eqb _ _ m)

  module _ (d : Option Date) (e : k ≡ 1) (h : d ≡ dated_of t) where
    pub start_day : (x : Date) → d ≡ Some x → true ≡ start_form k t
    unfolding start_form
    start_day x g = rw e (sym (dated_true t x (sym h ∙ g)))

    pub start_not : d ≡ None → false ≡ start_form k t
    unfolding start_form
    start_not g = rw e (sym (dated_false t (sym h ∙ g)))

  pub start_free : (k ≡ 1 → ⊥) → true ≡ start_form k t
  unfolding start_form
  start_free n = simp (ne_eqb _ _ n)

pub ruleset for_parts = (rules, first_digits, first_padded, second_digits, second_padded, second_free, start_day, start_not, start_free)

-- a front of a text
pub front : (t : Text) (a : ℕ) → a ≤ length t → a ≡ length (take a t)
front t a h = sym (length-take-le a t h)

module _ (k : ℕ) (t : Text) (a : ℕ) where
  pub first_in : a ≡ first_width k → length t ≡ code_width k → a ≤ length t
  first_in e h = omega (arith, code_parts k)

  pub start_in : a ≡ start_width k → length t ≡ start_width k + 8 → a ≤ length t
  start_in e h = omega arith

  pub code_in : a ≡ code_width k → length t ≡ body_width k → a ≤ length t
  code_in e h = omega (arith, body_parts k)

  pub code_long : a ≡ code_width k → length t ≡ body_width k → length (take a t) ≡ code_width k
  code_long e h = length-take-le a t (code_in e h) ∙ e

  pub dates_long : a ≡ code_width k → length t ≡ body_width k → length (take (length t - a) (drop a t)) ≡ start_width k + 8
  dates_long e h = rw (rest t a) (omega (arith, length-drop a t, body_parts k))

  module _ (u : Bool) where
    pub code_no : a ≡ first_width k → u ≡ first_form k (take a t) → u ≡ false → false ≡ code_form k t
    unfolding code_form
    code_no e p h = rw (← e, ← p, h)

    pub code_yes : (v : Bool) → a ≡ first_width k → u ≡ first_form k (take a t) → u ≡ true → v ≡ second_form k (take (length t - a) (drop a t)) → v ≡ code_form k t
    unfolding code_form
    code_yes v e p h q = rw (← e, ← p, h) (q ∙ ap (second_form k) (rest t a))

    pub dates_no : a ≡ start_width k → u ≡ start_form k (take a t) → u ≡ false → false ≡ dates_form k t
    unfolding dates_form
    dates_no e p h = rw (← e, ← p, h)

    pub dates_yes : (v : Bool) → a ≡ start_width k → u ≡ start_form k (take a t) → u ≡ true → v ≡ is_end (take (length t - a) (drop a t)) → v ≡ dates_form k t
    unfolding dates_form
    dates_yes v e p h q = rw (← e, ← p, h) (q ∙ ap is_end (rest t a))

    pub body_no : a ≡ code_width k → u ≡ code_form k (take a t) → u ≡ false → false ≡ body_form k t
    unfolding body_form
    body_no e p h = rw (← e, ← p, h)

    pub body_yes : (v : Bool) → a ≡ code_width k → u ≡ code_form k (take a t) → u ≡ true → v ≡ dates_form k (take (length t - a) (drop a t)) → v ≡ body_form k t
    unfolding body_form
    body_yes v e p h q = rw (← e, ← p, h) (q ∙ ap (dates_form k) (rest t a))

pub ruleset for_forms = (rules, front, first_in, start_in, code_in, code_long, dates_long, code_no, code_yes, dates_no, dates_yes, body_no, body_yes)
