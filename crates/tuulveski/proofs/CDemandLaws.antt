-- The demands, of what C gets: its numbers tell one answer, which is the definition's.
-- Assumes nothing.
use Prim.Native.Nat.{ℕ}
use mathlib.Core.Path.{◌≡◌, refl, sym, ap, ◌∙◌}
use mathlib.Core.Bool.{cond}
use mathlib.Core.List.{List}
use lib.ListN.{get_or}
use lib.Dec.{eqb}
use Rattle.lines.specs.declared.Cause.{Cause}
use Rattle.lines.specs.declared.Cause.TheVariants.{NoLineFeed, WrongByte, NoPipe, UnknownType, FieldCount, Order, NoEnd}
use Rattle.lines.specs.Shape.{number_of}
use Rattle.answers.specs.declared.Refusal.TheVariants.{Date, Long, Book, Ledger, Shape as BadShape, Findings, Full}
use Rattle.answers.specs.Answers.{Answer, accepting, Lent, Outcome, check, numbers_of}
use Rattle.tuulveski.specs.CDemands.{CGives, CMeets}
use Rattle.demands.proofs.DemandLaws.{same_outcome}
use Rattle.demands.proofs.CodeLaws.{meets}
use Rattle.std.proofs.Common.{Ok, Err}

-- the cause that a number tells
cause_of : ℕ → Cause
cause_of n =
    cond (eqb n 1) NoLineFeed
    (cond (eqb n 2) WrongByte
    (cond (eqb n 3) NoPipe
    (cond (eqb n 4) UnknownType
    (cond (eqb n 5) FieldCount
    (cond (eqb n 6) Order NoEnd)))))

told_cause : (c : Cause) → cause_of (number_of c) ≡ c
unfolding cause_of
told_cause NoLineFeed = refl
told_cause WrongByte = refl
told_cause NoPipe = refl
told_cause UnknownType = refl
told_cause FieldCount = refl
told_cause Order = refl
told_cause NoEnd = refl

-- the answer that numbers tell
answer_of : List ℕ → Answer
answer_of ns =
    cond (eqb (get_or ns 0 8) 0) (accepting (get_or ns 4 0) (get_or ns 5 0) (get_or ns 6 0) (get_or ns 7 0))
    (cond (eqb (get_or ns 0 8) 1) (Err Date)
    (cond (eqb (get_or ns 0 8) 2) (Err Long)
    (cond (eqb (get_or ns 0 8) 3) (Err Book)
    (cond (eqb (get_or ns 0 8) 4) (Err Ledger)
    (cond (eqb (get_or ns 0 8) 5) (Err (BadShape (record { line = get_or ns 1 0; cause = cause_of (get_or ns 2 0) })))
    (cond (eqb (get_or ns 0 8) 6) (Err (Findings (get_or ns 3 0))) (Err Full)))))))

told : (a : Answer) → answer_of (numbers_of a) ≡ a
unfolding answer_of numbers_of
told (Ok a) = refl
told (Err Date) = refl
told (Err Long) = refl
told (Err Book) = refl
told (Err Ledger) = refl
told (Err (BadShape fault)) = ap (λ (c : Cause). Err (BadShape (record { line = fault.line; cause = c }))) (told_cause fault.cause)
told (Err (Findings n)) = refl
told (Err Full) = refl

same_told : (a b : Answer) → numbers_of a ≡ numbers_of b → a ≡ b
same_told a b e = sym (told a) ∙ ap answer_of e ∙ told b

is_check : (x : Lent) (o : Outcome) → CGives x o → o ≡ check x
is_check x o g =
    same_outcome o (check x) (same_told o.answer (check x).answer (sym g.tell ∙ g.gives.numbers_are)) g.gives.ledger_is g.gives.area_is

pub c_meets : CMeets
c_meets =
    record {
      some_answer = λ x n ledger area g. ((check x).answer, g.numbers_are);
      one_answer = λ n a b e f. same_told a b (sym e ∙ f);
      demands = meets CGives is_check;
    }
