use Rattle.house.proofs.DigitLaws.{for_all_digits}
use Rattle.house.proofs.texts.all_digits.Goals as goal

pub loop-c-init : goal.loop-c-init
loop-c-init c = search for_all_digits

pub loop-c-preserved : goal.loop-c-preserved
loop-c-preserved c = search for_all_digits

pub returns-then-not-eight_digits : goal.returns-then-not-eight_digits
returns-then-not-eight_digits c = search for_all_digits

pub returns : goal.returns
returns c = search for_all_digits
