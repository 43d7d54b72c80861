use Rattle.std.proofs.lemmas.Result.{err_from_is_err_and}
use Rattle.answers.proofs.StepNeeds.{for_from_shape}
use Rattle.answers.proofs.steps.from_shape.Goals as goal

pub returns-in_err-shape_of : goal.returns-in_err-shape_of
returns-in_err-shape_of c =
    let p = err_from_is_err_and c.from_residual.result c.from_residual.ensures.1 in
    rw (p.1, p.2) (search (for_from_shape, c.in_err-shape_of.was))

pub from_findings-requires-clause-file_value : goal.from_findings-requires-clause-file_value
from_findings-requires-clause-file_value c =
    search (for_from_shape, c.in_ok-shape_of.was)

pub returns : goal.returns
returns c =
    search (for_from_shape, c.in_ok-shape_of.was)
