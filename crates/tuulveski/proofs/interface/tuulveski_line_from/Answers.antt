use Rattle.tuulveski.proofs.InterfaceNeeds.{for_tuulveski_line_from}
use Rattle.tuulveski.proofs.interface.tuulveski_line_from.Goals as goal

pub returns-then-line-number : goal.returns-then-line-number
returns-then-line-number c = search for_tuulveski_line_from

pub returns : goal.returns
returns c = search for_tuulveski_line_from
