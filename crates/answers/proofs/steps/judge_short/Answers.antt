use Rattle.answers.proofs.BufferNeeds.{for_judge_short}
use Rattle.answers.proofs.steps.judge_short.Goals as goal

pub judge_and_settle-requires-clause-ready : goal.judge_and_settle-requires-clause-ready
judge_and_settle-requires-clause-ready c = search for_judge_short

pub returns : goal.returns
returns c = search for_judge_short
