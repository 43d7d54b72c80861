use Rattle.house.proofs.DigitLaws.{for_eight_digits}
use Rattle.house.proofs.texts.eight_digits.Goals as goal

pub returns : goal.returns
returns c = search for_eight_digits
