use Rattle.rules.proofs.FieldNeeds.{for_judge_ip}
use Rattle.rules.proofs.fields.judge_ip.Goals as goal

pub returns-in-2 : goal.returns-in-2
returns-in-2 c = search for_judge_ip

pub returns-in-25 : goal.returns-in-25
returns-in-25 c = search for_judge_ip

pub returns-in_default : goal.returns-in_default
returns-in_default c = search for_judge_ip
