use Rattle.lines_places.proofs.FoundLaws.{for_number_on}
use Rattle.lines_places.proofs.found.number_on.Goals as goal

pub overflow_mul-number : goal.overflow_mul-number
overflow_mul-number c = search for_number_on

pub overflow_add-number : goal.overflow_add-number
overflow_add-number c = search for_number_on

pub loop-j-preserved : goal.loop-j-preserved
loop-j-preserved c = search for_number_on

pub returns : goal.returns
returns c = search for_number_on
