use Rattle.chart.proofs.RunNeeds.{for-put-front}
use Rattle.chart.proofs.runs.put_front.Goals as goal

pub put_next-spot-requires-clause-at_value : goal.put_next-spot-requires-clause-at_value
put_next-spot-requires-clause-at_value c = search for-put-front

pub put_next-spot-requires-clause-can : goal.put_next-spot-requires-clause-can
put_next-spot-requires-clause-can c = search for-put-front

pub loop-spot-smaller : goal.loop-spot-smaller
loop-spot-smaller c = search for-put-front

pub loop-spot-preserved : goal.loop-spot-preserved
loop-spot-preserved c = search for-put-front

pub returns-else-is_of : goal.returns-else-is_of
returns-else-is_of c = search for-put-front

pub returns : goal.returns
returns c = search for-put-front
