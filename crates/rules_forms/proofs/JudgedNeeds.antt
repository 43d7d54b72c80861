-- What each need of the functions on which fields are judged, and which may be empty, asks.
-- Assumes nothing.
use mathlib.Core.Path.{◌≡◌, refl}
use mathlib.Core.Bool.{Bool, true, false, ◌&&◌, ◌||◌, and-false}
use mathlib.Core.List.{List, [], ◌∷◌}
use mathlib.Core.Logic.{◌⊎◌, inl, inr}
use Prim.Native.Nat.{ℕ, zero, suc, ◌+◌, ◌≤◌, ◌<◌}
use native.Mathlib.Omega.{arith}
use borrow.Author.Rules.{rules}
use borrow.Author.Tests.{eq-eqb, ne_eqb, lt-ltb, le-ltb, lt-leb, le-leb}
use lib.Dec.{eqb, ltb, leb}
use Rattle.house.specs.Text.{any}
use Rattle.house.proofs.Small.{Three, lt, eq, gt, three}
use Rattle.lines.specs.Records.{IV, IH, IP, II, IE, IN, IA, IF}
use Rattle.rules_definitions.specs.Forms.{table, is_judged}
use Rattle.rules_forms.proofs.ClassLaws.{within_yes, within_low, within_high}
use Rattle.rules_forms.specs.FieldLeaves.{optional_in}

-- is_judged: the fields of a kind that are judged follow on each other
abbrev up_from : ℕ → ℕ → List ℕ
up_from lo zero = []
up_from lo (suc n) = lo ∷ up_from (suc lo) n

-- from lo on and before e, as a range of a match tests it
abbrev pub between : ℕ → ℕ → ℕ → Bool
between lo e f = leb lo f && ltb f e

one_of_run : (n lo e f : ℕ) → lo + n ≡ e → any (eqb f) (up_from lo n) ≡ between lo e f
one_of_run zero lo e f d = go (three f lo)
  where
    go : Three f lo → false ≡ between lo e f
    go (lt k) = simp (lt-leb lo f k)
    go (eq k) = simp (le-leb lo f (omega arith), le-ltb f e (omega arith))
    go (gt k) = simp (le-leb lo f (omega arith), le-ltb f e (omega arith))
one_of_run (suc n) lo e f d = go (three f lo) (one_of_run n (suc lo) e f (omega arith))
  where
    go : Three f lo → any (eqb f) (up_from (suc lo) n) ≡ between (suc lo) e f → eqb f lo || any (eqb f) (up_from (suc lo) n) ≡ between lo e f
    go (lt k) r = rw (ne_eqb f lo (λ z. omega arith), r, lt-leb (suc lo) f (omega arith), lt-leb lo f k)
    go (eq k) r = rw (eq-eqb f lo k, le-leb lo f (omega arith), lt-ltb f e (omega arith))
    go (gt k) r = rw (ne_eqb f lo (λ z. omega arith), r, le-leb (suc lo) f k, le-leb lo f (omega arith))

module _ (f : ℕ) where
  pub run_ih : is_judged IH f ≡ between 2 4 f
  unfolding is_judged table
  run_ih = one_of_run 2 2 4 f refl

  pub run_if : is_judged IF f ≡ between 2 4 f
  unfolding is_judged table
  run_if = one_of_run 2 2 4 f refl

  pub run_ip : (f ≡ 25 → ⊥) → is_judged IP f ≡ between 2 4 f
  unfolding is_judged table
  run_ip n = rw (ne_eqb f 25 n) (one_of_run 2 2 4 f refl)

  run_ii : (f ≡ 7 → ⊥) → is_judged II f ≡ between 2 16 f
  unfolding is_judged table
  run_ii n = rw (ne_eqb f 7 n) at (one_of_run 14 2 16 f refl)

  pub run_ie : is_judged IE f ≡ between 2 6 f
  unfolding is_judged table
  run_ie = one_of_run 4 2 6 f refl

  pub run_in : is_judged IN f ≡ between 2 9 f
  unfolding is_judged table
  run_in = one_of_run 7 2 9 f refl

  pub run_ia : is_judged IA f ≡ between 2 5 f
  unfolding is_judged table
  run_ia = one_of_run 3 2 5 f refl

module _ (k n f e : ℕ) (d : k ≡ n) where
  pub judged_in_lem : 2 ≤ f → f < e → is_judged n f ≡ between 2 e f → true ≡ is_judged k f
  judged_in_lem h g r = rw (d, r, le-leb 2 f h, lt-ltb f e g)

  pub judged_after : 2 ≤ f → e ≤ f → is_judged n f ≡ between 2 e f → false ≡ is_judged k f
  judged_after h g r = rw (d, r, le-leb 2 f h, le-ltb f e g)

module _ (k f : ℕ) where
  pub judged_low : f < 2 → false ≡ is_judged k f
  unfolding is_judged table
  judged_low h = go (three f 1)
    where
      go : Three f 1 → false ≡ is_judged k f
      go (lt a) = let z : f ≡ 0 = omega arith in simp (z, and-false)
      go (eq a) = simp (a, and-false)
      go (gt a) = absurd (omega arith)

  pub judged_iv : k ≡ IV → f ≡ 2 → true ≡ is_judged k f
  unfolding is_judged table
  judged_iv e h = rw (e, h)

  pub judged_iv_not : k ≡ IV → (f ≡ 2 → ⊥) → false ≡ is_judged k f
  unfolding is_judged table
  judged_iv_not e n = rw (e, ne_eqb f 2 n)

  pub judged_25 : k ≡ IP → f ≡ 25 → true ≡ is_judged k f
  unfolding is_judged table
  judged_25 e h = rw (e, h)

  module _ (e : k ≡ II) where
    pub judged_6 : 2 ≤ f → f < 7 → true ≡ is_judged k f
    judged_6 h g = judged_in_lem k II f 16 e h (omega arith) (run_ii f (λ z. omega arith))

    pub judged_7 : 7 ≤ f → f < 8 → false ≡ is_judged k f
    unfolding is_judged table
    judged_7 h g = let z : f ≡ 7 = omega arith in rw (e, z)

    pub judged_15 : 8 ≤ f → f < 16 → true ≡ is_judged k f
    judged_15 h g = judged_in_lem k II f 16 e (omega arith) g (run_ii f (λ z. omega arith))

    pub judged_16 : 16 ≤ f → false ≡ is_judged k f
    judged_16 h = judged_after k II f 16 e (omega arith) h (run_ii f (λ z. omega arith))

  pub judged_none : (k ≡ 1 → ⊥) → ((k ≡ 2) ⊎ (k ≡ 8) → ⊥) → (k ≡ 3 → ⊥) → (k ≡ 4 → ⊥) → (k ≡ 5 → ⊥) → (k ≡ 6 → ⊥) → (k ≡ 7 → ⊥) → false ≡ is_judged k f
  unfolding is_judged table
  judged_none a b c d e g h =
      simp (ne_eqb k 1 a, ne_eqb k 2 (λ z. b (inl z)), ne_eqb k 8 (λ z. b (inr z)), ne_eqb k 3 c, ne_eqb k 4 d, ne_eqb k 5 e, ne_eqb k 6 g, ne_eqb k 7 h)

pub ruleset for-is-judged =
    (rules, run_ih, run_if, run_ip, run_ie, run_in, run_ia, judged_in_lem, judged_after, judged_low, judged_iv, judged_iv_not, judged_25, judged_6, judged_7, judged_15, judged_16, judged_none)

-- is_optional
module _ (k : ℕ) (relaxed : Bool) (f : ℕ) where
  pub optional_8 : k ≡ IN → f ≡ 8 → true ≡ optional_in k relaxed f
  unfolding optional_in
  optional_8 e h = rw (e, h)

  pub optional_not : k ≡ IN → (f ≡ 8 → ⊥) → false ≡ optional_in k relaxed f
  unfolding optional_in
  optional_not e n = rw (e, ne_eqb f 8 n)

  pub optional_none : (k ≡ 4 → ⊥) → (k ≡ 6 → ⊥) → false ≡ optional_in k relaxed f
  unfolding optional_in
  optional_none m n = simp (ne_eqb k 4 m, ne_eqb k 6 n)

  module _ (e : k ≡ II) where
    pub optional_5 : f ≡ 5 → true ≡ optional_in k relaxed f
    unfolding optional_in
    optional_5 h = rw (e, h)

    pub optional_9 : 9 ≤ f → f < 16 → relaxed ≡ optional_in k relaxed f
    unfolding optional_in
    optional_9 h g = rw (e, ne_eqb f 5 (λ z. omega arith), within_yes 9 15 f h (omega arith))

    pub optional_low : (f ≡ 5 → ⊥) → f < 9 → false ≡ optional_in k relaxed f
    unfolding optional_in
    optional_low n h = rw (e, ne_eqb f 5 n, within_low 9 15 f h)

    pub optional_high : 16 ≤ f → false ≡ optional_in k relaxed f
    unfolding optional_in
    optional_high h = rw (e, ne_eqb f 5 (λ z. omega arith), within_high 9 15 f (omega arith))

pub ruleset for_optional = (rules, optional_8, optional_not, optional_none, optional_5, optional_9, optional_low, optional_high)
