use mathlib.Core.Path.{sym, ◌∙◌}
use native.Mathlib.Omega.{arith}
use Rattle.std.specs.Slice.Iter.{chunks_exact_rest}
use Rattle.lines_fields.proofs.FieldNeeds.{pass_rest, pass_on, pass_within}
use Rattle.lines_fields.proofs.fields.pass_over.Goals as goal

pub overflow_add-p : goal.overflow_add-p
overflow_add-p c =
    let i = c.loop-run.invariant in
    let s = c.in-Some.ensures.steps in
    omega (
      arith,
      pass_within c.args.text.now c.in-Some.run'.now (chunks_exact_rest c.next.new.self) c.loop-run.p.at (sym i.1 ∙ s.1.0) (s.1.1 ∙ i.0),
    )

pub loop-run-preserved : goal.loop-run-preserved
loop-run-preserved c =
    let i = c.loop-run.invariant in
    let s = c.in-Some.ensures.steps in (
      s.0 ∙ i.0,
      pass_rest c.args.text.now c.in-Some.run'.now (chunks_exact_rest c.next.new.self) c.loop-run.p.at c.loop-run.p.left c.count_few-n.result
          (sym i.1 ∙ s.1.0) c.count_few-n.ensures,
      omega arith,
      pass_on c.args.text.now c.in-Some.run'.now (chunks_exact_rest c.next.new.self) c.loop-run.p.at c.loop-run.p.left c.count_few-n.result
          (sym i.1 ∙ s.1.0) c.count_few-n.ensures _ c.if-p-n.false i.3,
    )
