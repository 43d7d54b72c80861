use native.Mathlib.Omega.{arith}
use mathlib.Core.Path.{refl}
use Rattle.std.proofs.lemmas.Fn.{says_at}
use Rattle.rules_lists.proofs.ListNeeds.{for_lines, any_past, any_here, any_next}
use Rattle.rules_lists.proofs.any_line.Goals as goal

pub returns-then-test : goal.returns-then-test
returns-then-test g c =
    λ p h.
    any_here p _ _ _ (c.loop-at.invariant.1 p h) c.loop-at-test.true _ c.line_at-l.ensures _ (h _ _ (says_at g.F.Fn c.test.ensures refl)) c.if-test.true

pub loop-at-smaller : goal.loop-at-smaller
loop-at-smaller g c = search for_lines

pub loop-at-preserved : goal.loop-at-preserved
loop-at-preserved g c = (
  omega arith,
  λ p h.
      any_next p _ _ _ (c.loop-at.invariant.1 p h) c.loop-at-test.true _ c.line_at-l.ensures _ (h _ _ (says_at g.F.Fn c.test.ensures refl)) c.if-test.false,
)

pub returns : goal.returns
returns g c = λ p h. any_past p _ _ _ (c.loop-at.invariant.1 p h) c.loop-at-test.false
