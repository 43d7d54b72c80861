use Rattle.house.proofs.OrderLaws.{for_compare_padded}
use Rattle.house.proofs.texts.compare_padded.Goals as goal

pub returns-in-Equal : goal.returns-in-Equal
returns-in-Equal c = search for_compare_padded

pub returns-in_default : goal.returns-in_default
returns-in_default c = search for_compare_padded
