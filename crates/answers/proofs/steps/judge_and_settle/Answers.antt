use Rattle.answers.proofs.StepNeeds.{for_judge_and_settle}
use Rattle.answers.proofs.steps.judge_and_settle.Goals as goal

pub returns-then-findings-eq0 : goal.returns-then-findings-eq0
returns-then-findings-eq0 c = search for_judge_and_settle

pub returns-else-findings-eq0 : goal.returns-else-findings-eq0
returns-else-findings-eq0 c = search for_judge_and_settle
