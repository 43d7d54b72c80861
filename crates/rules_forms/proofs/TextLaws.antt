-- What digits write.
-- Assumes nothing.
use mathlib.Core.Path.{◌≡◌, sym}
use mathlib.Core.Bool.{true}
use Prim.Native.Nat.{ℕ, ◌≤◌}
use native.Mathlib.Omega.{arith}
use lib.ListN.{length}
use Rattle.house.specs.Text.{Text, run, number, is_digit}
use Rattle.rules_forms.proofs.ClassLaws.{run_all, run_parts, run_least, run_most}
use Rattle.rules_forms.specs.TextLeaves.{value_of}

-- The number that a run of at most nine digits writes
pub value_run : (t : Text) (lo hi : ℕ) → 1 ≤ lo → hi ≤ 9 → run lo hi is_digit t ≡ true → value_of t ≡ number t
unfolding value_of
value_run t lo hi l m h =
    let a : lo ≤ length t = run_least t lo hi is_digit h in
    let b : length t ≤ hi = run_most t lo hi is_digit h in
    rw (← run_all t 1 9 is_digit true (omega arith) (omega arith) (sym (run_parts t lo hi is_digit h).1))
