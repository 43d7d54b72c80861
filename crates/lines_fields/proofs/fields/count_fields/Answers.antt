use mathlib.Core.Path.{◌∙◌}
use Rattle.std.specs.Slice.Iter.{chunks_rest}
use Rattle.lines_fields.proofs.FieldNeeds.{run_on, run_few, run_end}
use Rattle.lines_fields.proofs.fields.count_fields.Goals as goal

pub loop-few-preserved : goal.loop-few-preserved
loop-few-preserved c =
    let i = c.loop-few.invariant in
    let s = c.in-Some.ensures.steps in (
      s.0 ∙ i.0,
      run_few c.args.text.now (chunks_rest c.loop-few.few-iterator) c.in-Some.few.now (chunks_rest c.next.new.self) c.loop-few.n c.count_few.result s.1.0
          c.count_few.ensures i.1,
      run_on c.args.text.now (chunks_rest c.loop-few.few-iterator) c.in-Some.few.now (chunks_rest c.next.new.self) c.loop-few.n c.count_few.result s.1.0
          c.count_few.ensures i.2,
    )

pub returns : goal.returns
returns c =
    run_end c.args.text.now (chunks_rest c.loop-few.few-iterator) c.loop-few.n c.in-None.ensures.steps.1.0 c.loop-few.invariant.2
