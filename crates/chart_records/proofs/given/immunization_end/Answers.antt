use Rattle.chart_records.proofs.GivenNeeds.{for_immunization_end}
use Rattle.chart_records.proofs.given.immunization_end.Goals as goal

pub returns : goal.returns
returns c = search for_immunization_end

pub returns-in-0 : goal.returns-in-0
returns-in-0 c = search for_immunization_end

pub returns-in-1 : goal.returns-in-1
returns-in-1 c = search for_immunization_end

pub returns-in_default : goal.returns-in_default
returns-in_default c = search for_immunization_end
