use Rattle.book.proofs.DayLaws.{for_eight_digits}
use Rattle.book.proofs.days.eight_digits.Goals as goal

pub returns : goal.returns
returns c = search for_eight_digits
