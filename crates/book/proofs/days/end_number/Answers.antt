use Rattle.book.proofs.DayLaws.{for_end_number}
use Rattle.book.proofs.days.end_number.Goals as goal

pub returns-then-eight_are : goal.returns-then-eight_are
returns-then-eight_are c = search for_end_number
