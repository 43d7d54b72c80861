use native.Mathlib.Omega.{arith}
use mathlib.Core.Path.{refl}
use Rattle.std.proofs.lemmas.Fn.{says_at}
use Rattle.rules_lists.proofs.ListNeeds.{for_lines, all_past, all_here, all_next}
use Rattle.rules_lists.proofs.all_lines.Goals as goal

pub returns-else-test : goal.returns-else-test
returns-else-test g c =
    λ p h.
    all_here p _ _ _ (c.loop-at.invariant.1 p h) c.loop-at-test.true _ c.line_at-l.ensures _ (h _ _ (says_at g.F.Fn c.test.ensures refl)) c.if-test.false

pub loop-at-smaller : goal.loop-at-smaller
loop-at-smaller g c = search for_lines

pub loop-at-preserved : goal.loop-at-preserved
loop-at-preserved g c = (
  omega arith,
  λ p h.
      all_next p _ _ _ (c.loop-at.invariant.1 p h) c.loop-at-test.true _ c.line_at-l.ensures _ (h _ _ (says_at g.F.Fn c.test.ensures refl)) c.if-test.true,
)

pub returns : goal.returns
returns g c = λ p h. all_past p _ _ _ (c.loop-at.invariant.1 p h) c.loop-at-test.false
