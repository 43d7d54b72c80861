use Rattle.tuulveski.proofs.InterfaceNeeds.{for_tuulveski_field_from}
use Rattle.tuulveski.proofs.interface.tuulveski_field_from.Goals as goal

pub returns : goal.returns
returns c = search for_tuulveski_field_from
