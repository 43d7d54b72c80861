-- What a right shape says of the lines.
-- Assumes nothing.
use mathlib.Core.Path.{◌≡◌, refl}
use mathlib.Core.Bool.{Bool, true, false, not, cond}
use mathlib.Core.List.{List, [], ◌∷◌}
use Prim.Native.Nat.{ℕ, ◌+◌, ◌-◌, ◌<◌}
use borrow.Author.Tests.{eqb-true, eqb-false}
use lib.Dec.{eqb}
use lib.ListN.{length, take, drop}
use Rattle.house.specs.Text.{Text}
use Rattle.house.proofs.Small.{clash}
use Rattle.lines_fields.specs.declared.LineAt.{LineAt}
use Rattle.std.proofs.Common.{Option, Some, None, Ok}
use Rattle.lines.specs.declared.Cause.{Cause}
use Rattle.lines.specs.declared.Cause.TheVariants.{NoLineFeed, WrongByte, NoPipe, UnknownType, FieldCount, Order, NoEnd}
use Rattle.lines_fields.specs.Lines.{Line, lines_of, fields_of, LineIs}
use Rattle.lines.specs.Records.{IF, record_of, count_of}
use Rattle.lines.specs.Shape.{follows, printable, pipe_last, cause1, cause2, cause3, cause4, cause5, cause6, cause_of, cause7, fault, shape_at, shape_from, shape_of}
use Rattle.lines.specs.Inside.{RightFrom, RightLine}
use Rattle.lines_fields.proofs.LineLaws.{lines_on}

-- no cause at a line: each test of the definition has passed
pub right_line : (p : ℕ) (l : Line) → cause_of p l ≡ None → RightLine p l
unfolding cause_of cause1 cause2 cause3 cause4 cause5 cause6
right_line p l h =
    go l.ended (printable l.text) (pipe_last l.text) (eqb (record_of l.text) 0) (eqb (length (fields_of l.text)) (count_of (record_of l.text)))
    (follows p (record_of l.text)) refl refl refl refl refl refl h
  where
    go : (u c e z n f : Bool) → l.ended ≡ u → printable l.text ≡ c → pipe_last l.text ≡ e → eqb (record_of l.text) 0 ≡ z
        → eqb (length (fields_of l.text)) (count_of (record_of l.text)) ≡ n → follows p (record_of l.text) ≡ f
        → ◌≡◌ {A = Option Cause} (cond (not u) (Some NoLineFeed) (cond (not c) (Some WrongByte) (cond (not e) (Some NoPipe) (cond z (Some UnknownType) (cond (not n) (Some FieldCount) (cond (not f) (Some Order) None)))))) None → RightLine p l
    go false c e z n f hu hc he hz hn hf h = clash (cc)
    go true false e z n f hu hc he hz hn hf h = clash (cc)
    go true true false z n f hu hc he hz hn hf h = clash (cc)
    go true true true true n f hu hc he hz hn hf h = clash (cc)
    go true true true false false f hu hc he hz hn hf h = clash (cc)
    go true true true false true false hu hc he hz hn hf h = clash (cc)
    go true true true false true true hu hc he hz hn hf h =
        record { ended = hu; printed = hc; closed = he; known = eqb-false _ _ hz; counted = eqb-true _ _ hn; placed = hf }

-- a right shape: no cause at any line, and an IF at the end
right_from_lem : (n p : ℕ) (ls : List Line) → shape_from n p ls ≡ Ok tt → RightFrom p ls
unfolding shape_from cause7 RightFrom
right_from_lem n p [] h = go (eqb p IF) refl h
  where
    go : (b : Bool) → eqb p IF ≡ b → cond (not b) (fault n NoEnd) (Ok tt) ≡ Ok tt → p ≡ IF
    go true e k = eqb-true p IF e
    go false e k = clash (cc)
right_from_lem n p (l ∷ ls) h = go (cause_of p l) refl h (right_from_lem (n + 1) (record_of l.text) ls)
  where
    go : (c : Option Cause) → cause_of p l ≡ c → shape_at n c (shape_from (n + 1) (record_of l.text) ls) ≡ Ok tt
        → (shape_from (n + 1) (record_of l.text) ls ≡ Ok tt → RightFrom (record_of l.text) ls) → (cause_of p l ≡ None) × RightFrom (record_of l.text) ls
    go None e k r = (e, r k)
    go (Some c) e k r = clash (cc)

pub right_start : (s : Text) → shape_of s ≡ Ok tt → RightFrom 0 (lines_of s)
unfolding shape_of
right_start s h = right_from_lem 1 0 (lines_of s) h

-- one line on, from position at
module _ (s : Text) (at : ℕ) (q : LineAt) (e : LineIs s at q) (h : at < length s) (p : ℕ) (r : RightFrom p (lines_of (drop at s))) where
  split : (cause_of p (record { text = take (q.end - at) (drop at s); ended = q.lf }) ≡ None) × RightFrom (record_of (take (q.end - at) (drop at s))) (lines_of (drop q.next s))
  unfolding RightFrom
  split = rw (lines_on s at q e h) at r

  pub right_on : RightFrom (record_of (take (q.end - at) (drop at s))) (lines_of (drop q.next s))
  right_on = split.1
