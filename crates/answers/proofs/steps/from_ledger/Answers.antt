use Rattle.std.proofs.Common.{◌≡◌, Some, None, arith}
use Rattle.std.proofs.lemmas.Result.{err_from_is_err_and}
use Rattle.answers.specs.declared.Refusal.TheVariants.{Ledger}
use Rattle.answers.proofs.StepNeeds.{for_from_ledger}
use Rattle.answers.proofs.steps.from_ledger.Goals as goal

pub from_shape-requires : goal.from_shape-requires
from_shape-requires c =
    let z : c.valid.result ≡ Some c.in_ok-live.live = grind (arith, c.in_ok-live.was) in
    search for_from_ledger

pub returns-in_err-live : goal.returns-in_err-live
returns-in_err-live c =
    let p = err_from_is_err_and c.from_residual.result c.from_residual.ensures.1 in
    let z : c.valid.result ≡ None = grind (arith, c.in_err-live.was) in
    let e : c.in_err-live.field-0.0 ≡ Ledger = grind (arith, c.in_err-live.was) in
    rw (p.1, p.2, e) (search for_from_ledger)

pub returns : goal.returns
returns c =
    let z : c.valid.result ≡ Some c.in_ok-live.live = grind (arith, c.in_ok-live.was) in
    search for_from_ledger
