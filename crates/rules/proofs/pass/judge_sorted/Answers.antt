use Rattle.rules.proofs.JudgeNeeds.{for_judge_sorted}
use Rattle.rules.proofs.pass.judge_sorted.Goals as goal

pub returns-then-built : goal.returns-then-built
returns-then-built c = search (for_judge_sorted, c.in_ok-built.was)

pub returns-in_err-built : goal.returns-in_err-built
returns-in_err-built c = rw c.from_residual.ensures (search (for_judge_sorted, c.in_err-built.was))

pub returns : goal.returns
returns c = search (for_judge_sorted, c.in_ok-built.was)
