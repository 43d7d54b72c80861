use Rattle.book.proofs.DayLaws.{for_standing}
use Rattle.book.proofs.days.standing.Goals as goal

pub returns-then-in_force : goal.returns-then-in_force
returns-then-in_force c = search for_standing

pub returns-else-in_force : goal.returns-else-in_force
returns-else-in_force c = search for_standing

pub returns-in-None : goal.returns-in-None
returns-in-None c = search for_standing
