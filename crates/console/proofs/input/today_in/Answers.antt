use Rattle.console.proofs.ProgramNeeds.{for_today_in}
use Rattle.console.proofs.input.today_in.Goals as goal

pub returns-then-input-lt-TODAY_LINE : goal.returns-then-input-lt-TODAY_LINE
returns-then-input-lt-TODAY_LINE c = search for_today_in

pub returns-then-input-ne10 : goal.returns-then-input-ne10
returns-then-input-ne10 c = search for_today_in

pub returns-in-Some : goal.returns-in-Some
returns-in-Some c = search for_today_in

pub returns-in-None : goal.returns-in-None
returns-in-None c = search for_today_in
