use Rattle.rules.proofs.FieldNeeds.{for_judge_in}
use Rattle.rules.proofs.fields.judge_in.Goals as goal

pub returns-in-2 : goal.returns-in-2
returns-in-2 c = search for_judge_in

pub returns-in-3 : goal.returns-in-3
returns-in-3 c = search for_judge_in

pub returns-in-5 : goal.returns-in-5
returns-in-5 c = search for_judge_in

pub returns-in-6 : goal.returns-in-6
returns-in-6 c = search for_judge_in

pub returns-in_default : goal.returns-in_default
returns-in_default c = search for_judge_in
