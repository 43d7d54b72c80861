use Rattle.rules.proofs.AgainNeeds.{for_antigen_found}
use Rattle.rules.proofs.antigens.antigen_found.Goals as goal

pub bounds-marks-3 : goal.bounds-marks-3
bounds-marks-3 c = search for_antigen_found

pub returns-then-l : goal.returns-then-l
returns-then-l c = search for_antigen_found

pub returns : goal.returns
returns c = search for_antigen_found
