use Prim.Native.Nat.{◌+◌, ◌-◌, ◌≤◌}
use mathlib.Core.Path.{◌≡◌}
use native.Mathlib.Omega.{arith}
use lib.ListN.{length}
use Rattle.book.proofs.FilledLaws.{for_blanks}
use Rattle.book.specs.Inside.{Blank}
use Rattle.book.proofs.codes.blanks.Goals as goal
use Rattle.book.proofs.codes.blanks.Goals.{else-loop-i-test, then-loop-i-test+else-not-eight_are+else-last-i-gt8}

pub loop-i-preserved : goal.loop-i-preserved
loop-i-preserved c =
    let w : c.loop-i.i + 8 ≤ length c.args.book.now = omega arith in
    search for_blanks

pub returns-then-not-eight_are : goal.returns-then-not-eight_are
returns-then-not-eight_are c =
    let z : c.loop-i.i + 8 ≤ c.args.end = omega arith in
    let w : c.loop-i.i + 8 ≤ length c.args.book.now = omega arith in
    search for_blanks

pub returns : goal.returns
returns c =
    let d : c.args.end - 8 + 8 ≡ c.args.end = omega arith in
    let w : c.args.end - 8 + 8 ≤ length c.args.book.now = omega arith in
    let a : c.args.at ≤ c.args.end - 8 = omega arith in
    elim c.loop-i-test.branch [
      | else-loop-i-test z ↦ let g : c.args.end - 8 ≤ c.loop-i.i = omega arith in search for_blanks
      | then-loop-i-test+else-not-eight_are+else-last-i-gt8 z ↦
          let v : c.loop-i.i + 8 ≤ length c.args.book.now = omega arith in
          let b : Blank c.args.book.now c.args.at (c.loop-i.i + 8) = search for_blanks in
          let g : c.args.end - 8 ≤ c.loop-i.i + 8 = omega arith in
          search for_blanks
    ]
