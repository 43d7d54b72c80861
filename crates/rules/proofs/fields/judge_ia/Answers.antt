use Rattle.rules.proofs.FieldNeeds.{for_judge_ia}
use Rattle.rules.proofs.fields.judge_ia.Goals as goal

pub returns-in-2 : goal.returns-in-2
returns-in-2 c = search for_judge_ia

pub returns-in-3 : goal.returns-in-3
returns-in-3 c = search for_judge_ia

pub returns-in-4 : goal.returns-in-4
returns-in-4 c = search for_judge_ia

pub returns-in_default : goal.returns-in_default
returns-in_default c = search for_judge_ia
