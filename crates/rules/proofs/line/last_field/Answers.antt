use Rattle.rules.proofs.LastNeeds.{for_last_field}
use Rattle.rules.proofs.line.last_field.Goals as goal

pub returns-in-1 : goal.returns-in-1
returns-in-1 c = search for_last_field

pub returns-in-2 : goal.returns-in-2
returns-in-2 c = search for_last_field

pub returns-in-3 : goal.returns-in-3
returns-in-3 c = search for_last_field

pub returns-in-4 : goal.returns-in-4
returns-in-4 c = search for_last_field

pub returns-in-5 : goal.returns-in-5
returns-in-5 c = search for_last_field

pub returns-in-6 : goal.returns-in-6
returns-in-6 c = search for_last_field

pub returns-in-7 : goal.returns-in-7
returns-in-7 c = search for_last_field

pub returns-in-8 : goal.returns-in-8
returns-in-8 c = search for_last_field

pub returns-in_default : goal.returns-in_default
returns-in_default c = search for_last_field
