use Rattle.rules.proofs.LineNeeds.{for_judge_other_line}
use Rattle.rules.proofs.line.judge_other_line.Goals as goal

pub loop-f-init : goal.loop-f-init
loop-f-init c = search for_judge_other_line

pub judge_other-b-requires-clause-f_bound : goal.judge_other-b-requires-clause-f_bound
judge_other-b-requires-clause-f_bound c = search for_judge_other_line

pub emit-c-requires : goal.emit-c-requires
emit-c-requires c = search for_judge_other_line

pub next_field-f-requires : goal.next_field-f-requires
next_field-f-requires c = search for_judge_other_line

pub loop-f-smaller : goal.loop-f-smaller
loop-f-smaller c = search for_judge_other_line

pub loop-f-preserved : goal.loop-f-preserved
loop-f-preserved c = search for_judge_other_line

pub returns : goal.returns
returns c = search for_judge_other_line
