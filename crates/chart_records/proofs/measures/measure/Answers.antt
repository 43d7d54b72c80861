use Rattle.chart_records.proofs.MeasureNeeds.{for_measure}
use Rattle.chart_records.proofs.measures.measure.Goals as goal

pub loop-at-init : goal.loop-at-init
loop-at-init c = search for_measure

pub returns-then-end-eq0-clause-value : goal.returns-then-end-eq0-clause-value
returns-then-end-eq0-clause-value c = search for_measure

pub returns-then-end-eq0-clause-notes_after : goal.returns-then-end-eq0-clause-notes_after
returns-then-end-eq0-clause-notes_after c = search for_measure

pub note-requires : goal.note-requires
note-requires c = search for_measure

pub take_off-left-requires-clause-at_value : goal.take_off-left-requires-clause-at_value
take_off-left-requires-clause-at_value c = search for_measure

pub loop-at-smaller : goal.loop-at-smaller
loop-at-smaller c = search for_measure

pub loop-at-preserved : goal.loop-at-preserved
loop-at-preserved c = search for_measure

pub returns-clause-value : goal.returns-clause-value
returns-clause-value c = search for_measure

pub returns-clause-notes_after : goal.returns-clause-notes_after
returns-clause-notes_after c = search for_measure
