use Rattle.console.proofs.ProgramNeeds.{for_over_long}
use Rattle.console.proofs.input.over_long.Goals as goal

pub returns-in-Some : goal.returns-in-Some
returns-in-Some c = search for_over_long

pub returns-in-None : goal.returns-in-None
returns-in-None c = search for_over_long
