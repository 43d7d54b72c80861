use Rattle.rules_lists.proofs.StepNeeds.{for_rule13_in_step}
use Rattle.rules_lists.proofs.rule13_in_step.Goals as goal

pub returns-then-first-by : goal.returns-then-first-by
returns-then-first-by c = search for_rule13_in_step

pub loop-at-smaller : goal.loop-at-smaller
loop-at-smaller c = search for_rule13_in_step

pub loop-at-preserved : goal.loop-at-preserved
loop-at-preserved c = search for_rule13_in_step

pub returns-else-counts_alike : goal.returns-else-counts_alike
returns-else-counts_alike c = search for_rule13_in_step

pub returns : goal.returns
returns c = search for_rule13_in_step
