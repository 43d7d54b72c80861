use Rattle.std.proofs.Common.{◌≡◌, Some, None, arith}
use Rattle.std.proofs.lemmas.Result.{err_from_is_err_and}
use Rattle.answers.specs.declared.Refusal.TheVariants.{Book}
use Rattle.answers.proofs.StepNeeds.{for_check}
use Rattle.answers.proofs.steps.check.Goals as goal

pub returns-then-not-is_day : goal.returns-then-not-is_day
returns-then-not-is_day c =
    search for_check

pub returns-then-file-gt-MOST_BYTES : goal.returns-then-file-gt-MOST_BYTES
returns-then-file-gt-MOST_BYTES c =
    search for_check

pub from_ledger-requires-clause-sound : goal.from_ledger-requires-clause-sound
from_ledger-requires-clause-sound c =
    let z : c.valid.result ≡ Some c.in_ok-sections.sections = grind (arith, c.in_ok-sections.was) in
    search for_check

pub returns-in_err-sections : goal.returns-in_err-sections
returns-in_err-sections c =
    let p = err_from_is_err_and c.from_residual.result c.from_residual.ensures.1 in
    let z : c.valid.result ≡ None = grind (arith, c.in_err-sections.was) in
    let e : c.in_err-sections.field-0.0 ≡ Book = grind (arith, c.in_err-sections.was) in
    rw (p.1, p.2, e) (search for_check)

pub returns : goal.returns
returns c =
    let z : c.valid.result ≡ Some c.in_ok-sections.sections = grind (arith, c.in_ok-sections.was) in
    search for_check
