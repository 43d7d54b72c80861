use Rattle.rules.proofs.FieldNeeds.{for_judge_iv}
use Rattle.rules.proofs.fields.judge_iv.Goals as goal

pub returns-in-2 : goal.returns-in-2
returns-in-2 c = search for_judge_iv

pub returns-in_default : goal.returns-in_default
returns-in_default c = search for_judge_iv
