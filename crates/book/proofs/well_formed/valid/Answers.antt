use Prim.Native.Nat.{◌≤◌}
use native.Mathlib.Omega.{arith}
use Rattle.book.proofs.RunLaws.{for_valid}
use Rattle.book.proofs.well_formed.valid.Goals as goal

pub returns-then-book-gt-MOST : goal.returns-then-book-gt-MOST
returns-then-book-gt-MOST c = search for_valid

pub loop-k-preserved : goal.loop-k-preserved
loop-k-preserved c = search for_valid

pub returns-then-at-book : goal.returns-then-at-book
returns-then-at-book c = search for_valid

pub returns-else-at-book : goal.returns-else-at-book
returns-else-at-book c = let g : c.loop-k.k ≤ 9 = omega arith in search for_valid
