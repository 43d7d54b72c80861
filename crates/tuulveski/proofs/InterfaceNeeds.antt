-- What each need of the C interface asks.
-- Assumes nothing.
use mathlib.Core.Path.{◌≡◌, sym, ap, ◌∙◌, subst}
use mathlib.Core.Bool.{Bool}
use Prim.Native.Nat.{ℕ, ◌+◌, ◌-◌, ◌≤◌, ◌<◌}
use borrow.Author.Rules.{rules}
use native.Mathlib.Nat.{add-zero}
use native.Mathlib.Omega.{arith}
use borrow.Author.Tests.{lt-ltb, le-ltb}
use lib.ListN.{length, drop}
use Rattle.house.specs.Text.{Text}
use Rattle.lines_fields.specs.declared.FieldPlace.{FieldPlace}
use Rattle.lines.specs.Lines.{line_of, field_text, field_there, lines_len, field_position, place_in}
use Rattle.tuulveski.specs.declared.interface.Numbers.{Numbers}
use Rattle.lines.specs.declared.Fault.{Fault}
use Rattle.lines.specs.Shape.{number_of}
use Rattle.answers.specs.declared.Accepted.{Accepted}
use Rattle.answers.specs.declared.Refusal.TheVariants.{Date, Long, Book, Ledger, Shape as BadShape, Findings, Full}
use Rattle.answers.specs.Answers.{Answer, Lent, Outcome, left, check, numbers_of}
use Rattle.tuulveski.specs.Interface.{numbers, numbers_in, field_at, field_from, line_from}
use Rattle.tuulveski.specs.Inside.{Narrow}
use Rattle.tuulveski.proofs.NumberLaws.{check_narrow}
use Rattle.std.proofs.Common.{Ok, Err}

-- numbers_of
module _ (x : Answer) (h : Narrow x) where
  module _ (a : Accepted) (e : x ≡ Ok a) where
    all_narrow : (a.added < 4294967296) × (a.changed < 4294967296) × (a.deleted < 4294967296) × (a.not_immunized < 4294967296)
    unfolding Narrow
    all_narrow = subst Narrow e h

    pub added_narrow : a.added < 4294967296
    added_narrow = all_narrow.0

    pub changed_narrow : a.changed < 4294967296
    changed_narrow = all_narrow.1

    pub deleted_narrow : a.deleted < 4294967296
    deleted_narrow = all_narrow.2

    pub not_immunized_narrow : a.not_immunized < 4294967296
    not_immunized_narrow = all_narrow.3

  pub line_narrow : (fault : Fault) → x ≡ Err (BadShape fault) → fault.line < 4294967296
  unfolding Narrow
  line_narrow fault e = subst Narrow e h

  pub found_narrow : (n : ℕ) → x ≡ Err (Findings n) → n < 4294967296
  unfolding Narrow
  found_narrow n e = subst Narrow e h

module _ (x : Answer) where
  pub accepted_numbers : (a : Accepted) (p q r s : ℕ) → x ≡ Ok a → p ≡ a.added → q ≡ a.changed → r ≡ a.deleted → s ≡ a.not_immunized → numbers_in (numbers 0 0 0 0 p q r s) ≡ numbers_of x
  unfolding numbers_in numbers_of
  accepted_numbers a p q r s e f g h k = rw (e, f, g, h, k)

  module _ (r : Numbers) where
    pub shape_numbers : (fault : Fault) (p c : ℕ) → x ≡ Err (BadShape fault) → p ≡ fault.line → c ≡ number_of fault.cause → r ≡ numbers 5 p c 0 0 0 0 0 → numbers_in r ≡ numbers_of x
    unfolding numbers_in numbers_of
    shape_numbers fault p c e f k g = rw (g, e, f, k)

    pub found_numbers : (n p : ℕ) → x ≡ Err (Findings n) → p ≡ n → r ≡ numbers 6 0 0 p 0 0 0 0 → numbers_in r ≡ numbers_of x
    unfolding numbers_in numbers_of
    found_numbers n p e f g = rw (g, e, f)

    pub date_numbers : x ≡ Err Date → r ≡ numbers 1 0 0 0 0 0 0 0 → numbers_in r ≡ numbers_of x
    unfolding numbers_in numbers_of
    date_numbers e f = rw (e, f)

    pub long_numbers : x ≡ Err Long → r ≡ numbers 2 0 0 0 0 0 0 0 → numbers_in r ≡ numbers_of x
    unfolding numbers_in numbers_of
    long_numbers e f = rw (e, f)

    pub book_numbers : x ≡ Err Book → r ≡ numbers 3 0 0 0 0 0 0 0 → numbers_in r ≡ numbers_of x
    unfolding numbers_in numbers_of
    book_numbers e f = rw (e, f)

    pub ledger_numbers : x ≡ Err Ledger → r ≡ numbers 4 0 0 0 0 0 0 0 → numbers_in r ≡ numbers_of x
    unfolding numbers_in numbers_of
    ledger_numbers e f = rw (e, f)

    pub full_numbers : x ≡ Err Full → r ≡ numbers 7 0 0 0 0 0 0 0 → numbers_in r ≡ numbers_of x
    unfolding numbers_in numbers_of
    full_numbers e f = rw (e, f)

pub ruleset for_numbers_of = (
  rules,
  added_narrow,
  changed_narrow,
  deleted_narrow,
  not_immunized_narrow,
  line_narrow,
  found_narrow,
  accepted_numbers,
  shape_numbers,
  found_numbers,
  date_numbers,
  long_numbers,
  book_numbers,
  ledger_numbers,
  full_numbers,
)

-- tuulveski_check
module _ (x : Lent) (a : Answer) (l r : Text) (e : left a l r ≡ check x) where
  pub answer_narrow : Narrow a
  answer_narrow = subst Narrow (ap (λ (o : Outcome). o.answer) (sym e)) (check_narrow x)

  pub answer_numbers : (n : Numbers) → numbers_in n ≡ numbers_of a → numbers_in n ≡ numbers_of (check x).answer
  answer_numbers n f = f ∙ ap (λ (o : Outcome). numbers_of o.answer) e

  pub ledger_left : l ≡ (check x).ledger
  ledger_left = ap (λ (o : Outcome). o.ledger) e

  pub area_left : r ≡ (check x).area
  area_left = ap (λ (o : Outcome). o.area) e

pub ruleset for_tuulveski_check = (rules, answer_narrow, answer_numbers, ledger_left, area_left)

-- tuulveski_field
pub field_is : (s : Text) (n f : ℕ) (p : Bool) (at : ℕ) (t : Text) → p ≡ field_there s n f → at ≡ field_position s n f → t ≡ field_text s n f → record { present = p; start = at; length = length t } ≡ field_at s n f
unfolding field_at
field_is s n f p at t ep ea et = rw (ep, ea, et)

pub ruleset for_tuulveski_field = (rules, field_is)

-- tuulveski_line_from
pub line_stays : (s : Text) (a n m : ℕ) → m ≤ n → record { line = n; start = a } ≡ line_from s a n m
unfolding line_from lines_len
line_stays s a n m h =
    let z : m - n ≡ 0 = omega arith in
    rw (le-ltb n m h, z, add-zero)

pub line_goes_on : (s : Text) (a n m r : ℕ) → n < m → r ≡ a + lines_len (m - n) (drop a s) → record { line = m; start = r } ≡ line_from s a n m
unfolding line_from
line_goes_on s a n m r h e = rw (lt-ltb n m h, e)

pub ruleset for_tuulveski_line_from = (rules, line_stays, line_goes_on)

-- tuulveski_field_from
pub field_placed : (s : Text) (a f : ℕ) (p : FieldPlace) → p ≡ place_in (line_of (drop a s)).text a f
    → record { present = p.there; start = p.start; length = p.length } ≡ field_from s a f
unfolding field_from
field_placed s a f p e = rw e

pub ruleset for_tuulveski_field_from = (rules, field_placed)
