use Rattle.std.proofs.Common.{◌≡◌, Some, None, arith}
use Rattle.std.proofs.lemmas.Result.{err_from_is_err_and}
use Rattle.answers.specs.declared.Refusal.TheVariants.{Full}
use Rattle.answers.proofs.SettledNeeds.{for_settle_blocks}
use Rattle.answers.proofs.steps.settle_blocks.Goals as goal

pub returns-in_err-counts : goal.returns-in_err-counts
returns-in_err-counts c =
    let p = err_from_is_err_and c.from_residual.result c.from_residual.ensures.1 in
    let z : c.settle.result ≡ None = grind (arith, c.in_err-counts.was) in
    let e : c.in_err-counts.field-0.0 ≡ Full = grind (arith, c.in_err-counts.was) in
    rw (p.1, p.2, e) (search for_settle_blocks)

pub returns : goal.returns
returns c =
    let z : c.settle.result ≡ Some c.in_ok-counts.counts = grind (arith, c.in_ok-counts.was) in
    search for_settle_blocks
