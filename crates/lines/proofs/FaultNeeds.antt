-- What each need of `line_cause` and `shape_of` asks.
-- Assumes nothing.
use mathlib.Core.Path.{◌≡◌, refl}
use mathlib.Core.Bool.{Bool, true, false, not}
use Prim.Native.Nat.{ℕ, ◌+◌, ◌-◌, ◌≤◌, ◌<◌}
use borrow.Author.Rules.{rules}
use borrow.Author.Tests.{eq-eqb, ne_eqb}
use lib.ListN.{length, take, drop}
use Rattle.house.specs.Text.{Text}
use Rattle.lines_fields.specs.declared.LineAt.{LineAt}
use Rattle.lines_fields.specs.Lines.{lines_of, fields_of, LineIs}
use Rattle.lines.specs.Records.{IF, record_of}
use Rattle.lines.specs.Shape.{printable, pipe_last, cause1, cause2, cause3, cause4, cause5, cause6, cause_of, cause7, Shape, fault, shape_from, shape_of}
use Rattle.std.proofs.Common.{Option, Some, None, Ok}
use Rattle.lines.specs.declared.Cause.{Cause}
use Rattle.lines.specs.declared.Cause.TheVariants.{NoLineFeed, WrongByte, NoPipe, NoEnd}
use Rattle.lines.specs.Inside.{plain, kind_cause}
use Rattle.lines_fields.proofs.LineLaws.{at_text, lines_past, lines_on, left_falls, number_on}
use Rattle.lines.proofs.PlainLaws.{plain_drop, plain_text}

-- line_cause
module _ (p : ℕ) (t : Text) (u : Bool) where
  pub cause_open : not u ≡ true → Some NoLineFeed ≡ cause_of p (record { text = t; ended = u })
  unfolding cause_of cause1
  cause_open e = rw e

  module _ (e : not u ≡ false) (c : Bool) (f : c ≡ printable t) where
    pub cause_byte : not c ≡ true → Some WrongByte ≡ cause_of p (record { text = t; ended = u })
    unfolding cause_of cause1 cause2
    cause_byte g = rw (e, ← f, g)

    module _ (g : not c ≡ false) (l : Bool) (h : l ≡ pipe_last t) where
      pub cause_pipe : not l ≡ true → Some NoPipe ≡ cause_of p (record { text = t; ended = u })
      unfolding cause_of cause1 cause2 cause3
      cause_pipe i = rw (e, ← f, g, ← h, i)

      pub cause_kind : (r : Option Cause) (k n : ℕ) → not l ≡ false → k ≡ record_of t → n ≡ length (fields_of t) → r ≡ kind_cause p k n → r ≡ cause_of p (record { text = t; ended = u })
      unfolding cause_of cause1 cause2 cause3 cause4 cause5 cause6 kind_cause
      cause_kind r k n i j m o = rw (e, ← f, g, ← h, i, ← j, ← m) o

pub ruleset for_line_cause = (rules, cause_open, cause_byte, cause_pipe, cause_kind)

-- shape_of: the shape x, from line n at position at, after a record of kind p
pub shape_holds : (s : Text) → shape_of s ≡ shape_from 1 0 (lines_of s)
unfolding shape_of
shape_holds s = refl

module _ (s : Text) (at n p : ℕ) (x : Shape) (inv : x ≡ shape_from n p (lines_of (drop at s))) where
  module _ (h : at < length s) (q : LineAt) (e : LineIs s at q) (c : Option Cause) (f : c ≡ cause_of p (record { text = take (q.end - at) (drop at s); ended = q.lf })) where
    pub shape_fault : (k : Cause) → c ≡ Some k → fault n k ≡ x
    unfolding shape_from
    shape_fault k g = rw (inv, lines_on s at q e h, ← f, g)

    pub shape_on : (k : ℕ) → c ≡ None → k ≡ record_of (take (q.end - at) (drop at s)) → x ≡ shape_from (n + 1) k (lines_of (drop q.next s))
    unfolding shape_from
    shape_on k g i = rw (inv, lines_on s at q e h, ← f, g, ← i)

  module _ (h : length s ≤ at) where
    pub shape_right : p ≡ IF → Ok tt ≡ x
    unfolding shape_from cause7
    shape_right e = rw (inv, lines_past s at h, eq-eqb _ _ e)

    pub shape_short : (p ≡ IF → ⊥) → fault n NoEnd ≡ x
    unfolding shape_from cause7
    shape_short e = rw (inv, lines_past s at h, ne_eqb _ _ e)

-- where the file is plain, the line's text is printable
pub plain_line : (s : Text) (at : ℕ) (q : LineAt) (p : Bool) → LineIs s at q → (p ≡ true → plain s ≡ true) → p ≡ true → printable (take (q.end - at) (drop at s)) ≡ true
plain_line s at q p e f h = rw (at_text s at q e) (plain_text (drop at s) (plain_drop at s (f h)))

pub ruleset for_shape_of = (rules, shape_holds, shape_fault, shape_on, shape_right, shape_short, left_falls, number_on, plain_line)
