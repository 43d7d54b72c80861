use Rattle.rules.proofs.JudgeNeeds.{for_judge_file}
use Rattle.rules.proofs.pass.judge_file.Goals as goal

pub returns : goal.returns
returns c = search for_judge_file
