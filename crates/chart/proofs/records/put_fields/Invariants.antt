use Rattle.chart.proofs.RecordNeeds.{Fields}
use Rattle.chart.proofs.records.put_fields.Given as goal

abbrev pub invariant-loop-width : goal.invariant-loop-width
invariant-loop-width l = Fields l.kind l.at l.body l.initial.out l.width-index l.from l.pos l.out
