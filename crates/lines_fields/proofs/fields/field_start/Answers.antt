use Rattle.lines_fields.proofs.FieldNeeds.{for_field_start, start_end, start_last}
use Rattle.lines_fields.proofs.FieldLaws.{fields_le}
use Rattle.lines_fields.proofs.fields.field_start.Goals as goal

pub returns-then-f-eq0 : goal.returns-then-f-eq0
returns-then-f-eq0 c = search for_field_start

pub returns-then-left-eq1 : goal.returns-then-left-eq1
returns-then-left-eq1 c =
    start_last c.args.text.now c.loop-i.i c.loop-i.left _ c.loop-i.invariant.0 c.loop-i.invariant.1 c.loop-i-test.true c.if-text-i-eq124.true c.if-left-eq1.true

pub loop-i-preserved : goal.loop-i-preserved
loop-i-preserved c = search for_field_start

pub returns : goal.returns
returns c =
    start_end c.args.text.now c.loop-i.i c.loop-i.left _ c.loop-i.invariant.0 c.loop-i.invariant.1 c.loop-i-test.false (fields_le c.args.f c.args.text.now)
