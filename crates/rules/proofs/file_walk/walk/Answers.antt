use Rattle.rules.proofs.PassNeeds.{for_walk, walk_falls}
use Rattle.rules.proofs.file_walk.walk.Goals as goal

pub loop-at-init : goal.loop-at-init
loop-at-init c = search for_walk

pub with_answers-answered-requires-clause-ask_at : goal.with_answers-answered-requires-clause-ask_at
with_answers-answered-requires-clause-ask_at c = search for_walk

pub advance-st-requires-clause-read_in : goal.advance-st-requires-clause-read_in
advance-st-requires-clause-read_in c = search for_walk

pub loop-at-smaller-then-begins : goal.loop-at-smaller-then-begins
loop-at-smaller-then-begins c =
    walk_falls _ _ _ _ _ _ _ _ _ _ _ _ _ c.loop-at.invariant.3 c.loop-at.marks c.loop-at.invariant.0 c.requires c.loop-at-test.true _ c.look-here.ensures.marks_after _ c.look-here.ensures.here_is _
    c.with_answers-answered.ensures.answered_is _ _ c.judge_line-findings.ensures.are c.judge_line-findings.ensures.few _ c.advance-st.ensures _ c.begins.ensures

pub loop-at-preserved-then-begins : goal.loop-at-preserved-then-begins
loop-at-preserved-then-begins c = search for_walk

pub loop-at-smaller : goal.loop-at-smaller
loop-at-smaller c =
    walk_falls _ _ _ _ _ _ _ _ _ _ _ _ _ c.loop-at.invariant.3 c.loop-at.marks c.loop-at.invariant.0 c.requires c.loop-at-test.true _ c.look-here.ensures.marks_after _ c.look-here.ensures.here_is _
    c.with_answers-answered.ensures.answered_is _ _ c.judge_line-findings.ensures.are c.judge_line-findings.ensures.few _ c.advance-st.ensures _ c.begins.ensures

pub loop-at-preserved : goal.loop-at-preserved
loop-at-preserved c = search for_walk

pub returns : goal.returns
returns c = search for_walk
