use Rattle.answers.proofs.StepNeeds.{for_judge_into}
use Rattle.answers.proofs.steps.judge_into.Goals as goal

pub unreachable-requires : goal.unreachable-requires
unreachable-requires c =
    search for_judge_into

pub returns-clause-value : goal.returns-clause-value
returns-clause-value c =
    search for_judge_into

pub returns-clause-area_after : goal.returns-clause-area_after
returns-clause-area_after c =
    search for_judge_into

pub returns-clause-judges : goal.returns-clause-judges
returns-clause-judges c =
    search for_judge_into
