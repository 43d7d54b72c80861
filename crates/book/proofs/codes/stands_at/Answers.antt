use Prim.Native.Nat.{◌+◌, ◌-◌, ◌≤◌}
use mathlib.Core.Path.{◌≡◌}
use native.Mathlib.Omega.{arith}
use lib.ListN.{length}
use Rattle.book.specs.Inside.{Stands}
use Rattle.book.proofs.FilledLaws.{for_stands_at}
use Rattle.book.proofs.codes.stands_at.Goals as goal
use Rattle.book.proofs.codes.stands_at.Goals.{else-loop-i-test, then-loop-i-test+else-not-four_same+else-last-i-gt4}

pub loop-i-preserved : goal.loop-i-preserved
loop-i-preserved c = search for_stands_at

pub returns-then-not-four_same : goal.returns-then-not-four_same
returns-then-not-four_same c =
    let z : c.loop-i.i + 4 ≤ length c.args.text.now = omega arith in
    search for_stands_at

pub returns : goal.returns
returns c =
    let d : length c.args.text.now - 4 + 4 ≡ length c.args.text.now = omega arith in
    elim c.loop-i-test.branch [
      | else-loop-i-test z ↦ let g : length c.args.text.now - 4 ≤ c.loop-i.i = omega arith in search for_stands_at
      | then-loop-i-test+else-not-four_same+else-last-i-gt4 z ↦
          let b : Stands c.args.book.now c.args.at c.args.text.now (c.loop-i.i + 4) = search for_stands_at in
          let g : length c.args.text.now - 4 ≤ c.loop-i.i + 4 = omega arith in
          search for_stands_at
    ]
