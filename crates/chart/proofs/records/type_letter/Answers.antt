use Rattle.chart.proofs.RecordNeeds.{for_type_letter}
use Rattle.chart.proofs.records.type_letter.Goals as goal

pub returns-in-4 : goal.returns-in-4
returns-in-4 c = search for_type_letter

pub returns-in-5 : goal.returns-in-5
returns-in-5 c = search for_type_letter

pub returns-in-6 : goal.returns-in-6
returns-in-6 c = search for_type_letter

pub returns-in-7 : goal.returns-in-7
returns-in-7 c = search for_type_letter

pub returns-in_default : goal.returns-in_default
returns-in_default c = search for_type_letter
