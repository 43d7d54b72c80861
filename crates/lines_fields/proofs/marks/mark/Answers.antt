use native.Mathlib.Omega.{arith}
use Rattle.lines_fields.proofs.MarkNeeds.{for_mark, fill_more}
use Rattle.lines_fields.proofs.marks.mark.Goals as goal

pub loop-k-init : goal.loop-k-init
loop-k-init c = search for_mark

pub loop-k-preserved : goal.loop-k-preserved
loop-k-preserved c = (
  omega arith,
  omega arith,
  fill_more c.args.file.now c.args.at c.args.end c.requires.end_value c.mark_pipes-n.result c.mark_pipes-n.ensures.value c.loop-k.k c.loop-k.marks
      c.loop-k.invariant.2 c.loop-k.invariant.0 (omega arith),
)

pub returns : goal.returns
returns c = search for_mark
