use Rattle.tuulveski.proofs.InterfaceNeeds.{for_tuulveski_field}
use Rattle.tuulveski.proofs.interface.tuulveski_field.Goals as goal

pub returns : goal.returns
returns c = search for_tuulveski_field
