use Rattle.tuulveski.proofs.InterfaceNeeds.{for_tuulveski_check}
use Rattle.tuulveski.proofs.interface.tuulveski_check.Goals as goal

pub numbers_of-requires : goal.numbers_of-requires
numbers_of-requires c = search for_tuulveski_check
