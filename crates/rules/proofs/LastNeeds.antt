-- What each need of the functions that lead from one field of a line to the next asks.
-- Assumes nothing.
use mathlib.Core.Path.{◌≡◌, refl}
use mathlib.Core.Logic.{◌⊎◌, inl, inr}
use mathlib.Core.Bool.{Bool, true, false, cond, ◌&&◌}
use mathlib.Core.List.{List}
use Prim.Native.Nat.{ℕ, ◌+◌, ◌≤◌, ◌<◌}
use native.Mathlib.Omega.{arith}
use borrow.Author.Rules.{rules}
use borrow.Author.Tests.{ne_eqb, eqb-true, lt-ltb, le-ltb, ltb-true, ltb-false}
use lib.Dec.{eqb, ltb}
use Rattle.house.specs.Text.{Text}
use Rattle.lines_fields.specs.Marks.{judged_in}
use Rattle.rules_forms.specs.FieldLeaves.{relaxed_if}
use Rattle.rules_fields.specs.declared.Broken.{Broken}
use Rattle.rules.specs.declared.By.{By}
use Rattle.rules.specs.declared.Here.{Here}
use Rattle.rules.specs.Fields.{Bookless, Judges, relaxed_in, last_field, last_of, next_field}

-- relaxed_of
pub relaxed_ii : (file : Text) (marks : List ℕ) (x : Bool) (t5 t18 t19 t20 : Text) → t5 ≡ judged_in file marks 5 → t18 ≡ judged_in file marks 18 → t19 ≡ judged_in file marks 19
    → t20 ≡ judged_in file marks 20 → x ≡ relaxed_if t5 t18 t19 t20 → x ≡ relaxed_in file marks
unfolding relaxed_in
relaxed_ii file marks x t5 t18 t19 t20 a b c d e = rw (← a, ← b, ← c, ← d) e

pub ruleset for_relaxed_of = (rules, relaxed_ii)

-- judge_other
pub field_any : (file : Text) (marks : List ℕ) (h : Here) (by : By) (f : ℕ) (b : Broken) → ((book : Text) (by : By) → Judges file marks h book by f b)
    → (book : Text) → Judges file marks h book by f b
field_any file marks h by f b g book = g book by

module _ (k : ℕ) (g : Bookless k) where
  pub other_ii : k ≡ 4 → ⊥
  other_ii = g.no_ii_lem

  pub other_ie : k ≡ 5 → ⊥
  other_ie = g.no_ie

  pub other_in : k ≡ 6 → ⊥
  other_in = g.no_in

  pub other_ia : k ≡ 7 → ⊥
  other_ia = g.no_ia

pub ruleset for_judge_other = (rules, field_any, other_ii, other_ie, other_in, other_ia)

-- last_field
module _ (k : ℕ) where
  pub last_iv : k ≡ 1 → 2 ≡ last_field k
  unfolding last_field
  last_iv e = rw e

  pub last_ih : k ≡ 2 → 3 ≡ last_field k
  unfolding last_field
  last_ih e = rw e

  pub last_ip : k ≡ 3 → 25 ≡ last_field k
  unfolding last_field
  last_ip e = rw e

  pub last_ii : k ≡ 4 → 15 ≡ last_field k
  unfolding last_field
  last_ii e = rw e

  pub last_ie : k ≡ 5 → 5 ≡ last_field k
  unfolding last_field
  last_ie e = rw e

  pub last_in : k ≡ 6 → 8 ≡ last_field k
  unfolding last_field
  last_in e = rw e

  pub last_ia : k ≡ 7 → 4 ≡ last_field k
  unfolding last_field
  last_ia e = rw e

  pub last_if : k ≡ 8 → 3 ≡ last_field k
  unfolding last_field
  last_if e = rw e

  pub last_none : (k ≡ 1 → ⊥) → (k ≡ 2 → ⊥) → (k ≡ 3 → ⊥) → (k ≡ 4 → ⊥) → (k ≡ 5 → ⊥) → (k ≡ 6 → ⊥) → (k ≡ 7 → ⊥) → (k ≡ 8 → ⊥) → 0 ≡ last_field k
  unfolding last_field
  last_none a b c d e f g i = rw (ne_eqb k 1 a, ne_eqb k 2 b, ne_eqb k 3 c, ne_eqb k 4 d, ne_eqb k 5 e, ne_eqb k 6 f, ne_eqb k 7 g, ne_eqb k 8 i)

  last_most : last_field k ≤ 25
  unfolding last_field
  last_most = go (eqb k 1) (eqb k 2) (eqb k 3) (eqb k 4) (eqb k 5) (eqb k 6) (eqb k 7) (eqb k 8)
    where
      go : (a b c d e f g h : Bool) → cond a 2 (cond b 3 (cond c 25 (cond d 15 (cond e 5 (cond f 8 (cond g 4 (cond h 3 0))))))) ≤ 25
      go true b c d e f g h = omega arith
      go false true c d e f g h = omega arith
      go false false true d e f g h = omega arith
      go false false false true e f g h = omega arith
      go false false false false true f g h = omega arith
      go false false false false false true g h = omega arith
      go false false false false false false true h = omega arith
      go false false false false false false false true = omega arith
      go false false false false false false false false = omega arith

pub ruleset for_last_field = (rules, last_iv, last_ih, last_ip, last_ii, last_ie, last_in, last_ia, last_if, last_none)

-- last_of
module _ (k n : ℕ) where
  module _ (last : ℕ) (e : last ≡ last_field k) where
    pub last_few : n < last → n ≡ last_of k n
    unfolding last_of
    last_few h = rw (lt-ltb n (last_field k) (rw (← e) h))

    pub last_all : last ≤ n → last ≡ last_of k n
    unfolding last_of
    last_all h = rw (le-ltb n (last_field k) (rw (← e) h)) e

  -- they are there, and are no more than the marked ones; no rule is placed on those that are left
  pub in_line : last_of k n ≤ n
  unfolding last_of
  in_line = go (ltb n (last_field k)) refl
    where
      go : (b : Bool) → ltb n (last_field k) ≡ b → cond b n (last_field k) ≤ n
      go true e = omega arith
      go false e = ltb-false n (last_field k) e

  pub in_marks : last_of k n ≤ 25
  unfolding last_of
  in_marks = go (ltb n (last_field k)) refl
    where
      go : (b : Bool) → ltb n (last_field k) ≡ b → cond b n (last_field k) ≤ 25
      go true e = omega (arith, ltb-true n (last_field k) e, last_most k)
      go false e = last_most k

  pub past_last : (g : ℕ) → last_of k n < g → g ≤ n → last_field k < g
  unfolding last_of
  past_last g = go (ltb n (last_field k))
    where
      go : (b : Bool) → cond b n (last_field k) < g → g ≤ n → last_field k < g
      go true h i = absurd (omega arith)
      go false h i = h

pub ruleset for_last_of = (rules, last_few, last_all)

-- next_field
module _ (k f : ℕ) where
  pub next_25 : k ≡ 3 → f ≡ 3 → 25 ≡ next_field k f
  unfolding next_field
  next_25 d e = rw (d, e)

  pub next_ip : k ≡ 3 → (f ≡ 3 → ⊥) → f + 1 ≡ next_field k f
  unfolding next_field
  next_ip d n = rw (d, ne_eqb f 3 n)

  pub next_one : (k ≡ 3 → ⊥) → f + 1 ≡ next_field k f
  unfolding next_field
  next_one n = rw (ne_eqb k 3 n)

  pub next_is : (next_field k f ≡ f + 1) ⊎ ((k ≡ 3) × ((f ≡ 3) × (next_field k f ≡ 25)))
  unfolding next_field
  next_is = go (eqb k 3) (eqb f 3) refl refl
    where
      go : (a b : Bool) → eqb k 3 ≡ a → eqb f 3 ≡ b → (cond (a && b) 25 (f + 1) ≡ f + 1) ⊎ ((k ≡ 3) × ((f ≡ 3) × (◌≡◌ {A = ℕ} (cond (a && b) 25 (f + 1)) 25)))
      go true true d e = inr (eqb-true k 3 d, (eqb-true f 3 e, refl))
      go true false d e = inl refl
      go false b d e = inl refl

  -- it is later, and not past the last
  pub next_later : f ≤ 25 → (f < next_field k f) × (next_field k f ≤ 26)
  next_later h = go next_is
    where
      go : (next_field k f ≡ f + 1) ⊎ ((k ≡ 3) × ((f ≡ 3) × (next_field k f ≡ 25))) → (f < next_field k f) × (next_field k f ≤ 26)
      go (inl e) = (omega (arith, e), omega (arith, e))
      go (inr e) = let a = e.1.0 in let b = e.1.1 in (omega (arith, a, b), omega (arith, b))

pub ruleset for_next_field = (rules, next_25, next_ip, next_one)
