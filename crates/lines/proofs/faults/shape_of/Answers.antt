use Rattle.lines.proofs.FaultNeeds.{for_shape_of}
use Rattle.lines.proofs.faults.shape_of.Goals as goal

pub loop-at-init : goal.loop-at-init
loop-at-init c = search for_shape_of

pub line_cause-requires : goal.line_cause-requires
line_cause-requires c = search for_shape_of

pub returns-in-Some : goal.returns-in-Some
returns-in-Some c = search for_shape_of

pub loop-at-smaller : goal.loop-at-smaller
loop-at-smaller c = search for_shape_of

pub loop-at-preserved : goal.loop-at-preserved
loop-at-preserved c = search for_shape_of

pub returns-then-p-eq-IF : goal.returns-then-p-eq-IF
returns-then-p-eq-IF c = search for_shape_of

pub returns-else-p-eq-IF : goal.returns-else-p-eq-IF
returns-else-p-eq-IF c = search for_shape_of
