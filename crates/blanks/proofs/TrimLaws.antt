-- What `trimmed` comes to: it is no longer than the text, and its bytes are bytes of the text.
-- Assumes nothing.
use mathlib.Core.Path.{◌≡◌, refl}
use mathlib.Core.Bool.{Bool, true, false, cond, ◌&&◌}
use mathlib.Core.List.{[], ◌∷◌}
use Prim.Native.Nat.{ℕ, ◌≤◌}
use native.Mathlib.Omega.{arith}
use lib.Dec.{eqb}
use lib.ListN.{length}
use Rattle.house.specs.Text.{Text, all, after_front, is_empty, is_blank}
use Rattle.house.proofs.Small.{both}
use Rattle.blanks.specs.Blanks.{without_last_blanks, trimmed}

pub last_short : (t : Text) → length (without_last_blanks t) ≤ length t
unfolding without_last_blanks
last_short [] = omega arith
last_short (b ∷ t) = go (is_blank b && is_empty (without_last_blanks t)) (last_short t)
  where
    go : (u : Bool) → length (without_last_blanks t) ≤ length t → length (cond u [] (b ∷ without_last_blanks t)) ≤ length (b ∷ t)
    go true h = omega arith
    go false h = omega (arith, h)

front_short : (t : Text) → length (after_front is_blank t) ≤ length t
front_short [] = omega arith
front_short (b ∷ t) = go (eqb b 32) (front_short t)
  where
    go : (u : Bool) → length (after_front is_blank t) ≤ length t → length (cond u (after_front is_blank t) (b ∷ t)) ≤ length (b ∷ t)
    go true h = omega (arith, h)
    go false h = omega arith

pub trimmed_short : (t : Text) → length (trimmed t) ≤ length t
unfolding trimmed
trimmed_short t = omega (arith, front_short (without_last_blanks t), last_short t)

-- a class of bytes
module _ (p : ℕ → Bool) where
  last_all : (t : Text) → all p t ≡ true → all p (without_last_blanks t) ≡ true
  unfolding without_last_blanks
  last_all [] h = refl
  last_all (b ∷ t) h = let q = both (p b) (all p t) h in go (is_blank b && is_empty (without_last_blanks t)) q.0 (last_all t q.1)
    where
      go : (u : Bool) → p b ≡ true → all p (without_last_blanks t) ≡ true → all p (cond u [] (b ∷ without_last_blanks t)) ≡ true
      go true e f = refl
      go false e f = rw (e, f)

  front_all : (t : Text) → all p t ≡ true → all p (after_front is_blank t) ≡ true
  front_all [] h = refl
  front_all (b ∷ t) h = let q = both (p b) (all p t) h in go (eqb b 32) q.0 q.1 (front_all t q.1)
    where
      go : (u : Bool) → p b ≡ true → all p t ≡ true → all p (after_front is_blank t) ≡ true → all p (cond u (after_front is_blank t) (b ∷ t)) ≡ true
      go true e f g = g
      go false e f g = rw (e, f)

  pub trimmed_all : (t : Text) → all p t ≡ true → all p (trimmed t) ≡ true
  unfolding trimmed
  trimmed_all t h = front_all (without_last_blanks t) (last_all t h)
