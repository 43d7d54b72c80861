-- Numbers between two others, and runs of bytes.
-- Assumes nothing.
use mathlib.Core.Path.{◌≡◌, refl}
use mathlib.Core.Bool.{Bool, true, false, ◌&&◌}
use Prim.Native.Nat.{ℕ, ◌≤◌, ◌<◌}
use borrow.Author.Tests.{le-leb, lt-leb, leb-true}
use lib.Dec.{leb}
use lib.ListN.{length}
use Rattle.house.specs.Text.{Text, all, within, run}
use Rattle.house.proofs.Small.{both}

-- A number between two others
module _ (lo hi b : ℕ) where
  pub within_yes : lo ≤ b → b ≤ hi → within lo hi b ≡ true
  within_yes h k = simp (le-leb _ _ h, le-leb _ _ k)

  pub within_low : b < lo → within lo hi b ≡ false
  within_low h = simp (lt-leb _ _ h)

  pub within_high : hi < b → within lo hi b ≡ false
  within_high h = go (leb lo b)
    where
      go : (t : Bool) → t && leb b hi ≡ false
      go true = lt-leb _ _ h
      go false = refl

-- A run of bytes of a class
module _ (t : Text) (lo hi : ℕ) (p : ℕ → Bool) where
  pub run_short : length t < lo → false ≡ run lo hi p t
  unfolding run
  run_short h = simp (within_low lo hi (length t) h)

  pub run_long : hi < length t → false ≡ run lo hi p t
  unfolding run
  run_long h = simp (within_high lo hi (length t) h)

  pub run_all : (x : Bool) → lo ≤ length t → length t ≤ hi → x ≡ all p t → x ≡ run lo hi p t
  unfolding run
  run_all x k h e = simp (within_yes lo hi (length t) k h) e

  -- what a run says
  module _ (h : run lo hi p t ≡ true) where
    pub run_parts : (within lo hi (length t) ≡ true) × (all p t ≡ true)
    unfolding run
    run_parts = both (within lo hi (length t)) (all p t) h

    pub run_least : lo ≤ length t
    run_least = leb-true _ _ (both (leb lo (length t)) (leb (length t) hi) run_parts.0).0

    pub run_most : length t ≤ hi
    run_most = leb-true _ _ (both (leb lo (length t)) (leb (length t) hi) run_parts.0).1
