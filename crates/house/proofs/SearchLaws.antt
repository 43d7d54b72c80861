-- Halving as a loop: what is left to binary_search, and one turn; and what it finds where the rows ascend.
-- Assumes nothing.
use Prim.Native.Nat.{ℕ, zero, suc, ◌+◌, ◌-◌, ◌/◌, ◌≤◌, ◌<◌}
use native.Mathlib.Omega.{arith}
use mathlib.Core.Path.{◌≡◌, refl, sym, ap, ◌∙◌}
use mathlib.Core.Logic.{◌⊎◌, inl, inr}
use mathlib.Core.Bool.{Bool, true, false}
use lib.Dec.{ltb}
use Rattle.std.specs.Prelude.{cond}
use borrow.Author.Tests.{lt-ltb, le-ltb}
use Rattle.std.proofs.Common.{Option, Some, None}
use Rattle.std.specs.Option.{is_some, unwrap_or}
use Rattle.std.specs.declared.cmp.Ordering.{Ordering}
use Rattle.std.specs.declared.cmp.Ordering.TheVariants.{Less, Equal, Greater}
use Rattle.house.specs.Search.{by_order, binary_search}
use Rattle.house.proofs.Small.{clash, Three, lt, eq, gt, three}

by : {B : Type 0} (o p : Ordering) (l s m : B) → o ≡ p → by_order o l s m ≡ by_order p l s m
by o p l s m e = ap (λ (y : Ordering). by_order y l s m) e

module _ {B : Type 0} (row : ℕ → Ordering) (place : ℕ → B) (none : B) where
  stop : (f lo hi : ℕ) → hi ≤ lo → binary_search row place none f lo hi ≡ none
  unfolding binary_search
  stop zero lo hi h = refl
  stop (suc f) lo hi h = rw (le-ltb lo hi h)

  -- x is what the binary search from lo to hi finds
  pub record Halves (x : B) (lo hi : ℕ) : Type 0 where
    pub fuel : ℕ
    pub enough : hi - lo ≤ fuel
    pub whole : x ≡ binary_search row place none fuel lo hi

  pub halves_start : (n : ℕ) → Halves (binary_search row place none n 0 n) 0 n
  halves_start n = record { fuel = n; enough = omega arith; whole = refl }

  module _ (x : B) (lo hi : ℕ) (inv : Halves x lo hi) where
    pub halves_end : hi ≤ lo → none ≡ x
    halves_end h = sym (inv.whole ∙ stop inv.fuel lo hi h)

    halves_step : (f : ℕ) → lo < hi → hi - lo ≤ f → x ≡ binary_search row place none f lo hi
        → (g : ℕ) × (f ≡ suc g) × (x ≡ by_order (row (lo + (hi - lo) / 2)) (binary_search row place none g (lo + (hi - lo) / 2 + 1) hi) (place (lo + (hi - lo) / 2)) (binary_search row place none g lo (lo + (hi - lo) / 2)))
    unfolding binary_search
    halves_step zero h l e = absurd (omega arith)
    halves_step (suc g) h l e = (g, refl, e ∙ rw (lt-ltb lo hi h))

    -- one turn, by the order of the middle row
    module _ (h : lo < hi) (o : Ordering) (e : row (lo + (hi - lo) / 2) ≡ o) where
      turn : (g : ℕ) × (inv.fuel ≡ suc g) × (x ≡ by_order o (binary_search row place none g (lo + (hi - lo) / 2 + 1) hi) (place (lo + (hi - lo) / 2)) (binary_search row place none g lo (lo + (hi - lo) / 2)))
      turn =
          let z = halves_step inv.fuel h inv.enough inv.whole in
          (z.0, z.1, z.2 ∙ by (row (lo + (hi - lo) / 2)) o _ _ _ e)

      pub turn_up : o ≡ Less → Halves x (lo + (hi - lo) / 2 + 1) hi
      turn_up z = record { fuel = turn.0; enough = omega (arith, turn.1, inv.enough); whole = turn.2 ∙ by o Less _ _ _ z }

      pub turn_down : o ≡ Greater → Halves x lo (lo + (hi - lo) / 2)
      turn_down z = record { fuel = turn.0; enough = omega (arith, turn.1, inv.enough); whole = turn.2 ∙ by o Greater _ _ _ z }

      pub turn_hit : o ≡ Equal → place (lo + (hi - lo) / 2) ≡ x
      turn_hit z = sym (turn.2 ∙ by o Equal _ _ _ z)

  -- n rows that ascend: of any two, the first stands below what is sought, or the second above it
  abbrev pub Ascends : ℕ → Type 0
  Ascends n = (i j : ℕ) → i < j → j < n → (row i ≡ Less) ⊎ (row j ≡ Greater)

  -- n rows that climb, of which several may be what is sought: before a row below it all are below it, after a row above it all are above it
  abbrev pub Climbs : ℕ → Type 0
  Climbs n = (i j : ℕ) → i < j → j < n → (row j ≡ Less → row i ≡ Less) × (row i ≡ Greater → row j ≡ Greater)

  ascending_climbs : (n : ℕ) → Ascends n → Climbs n
  ascending_climbs n up i j h k = go (up i j h k)
    where
      go : (row i ≡ Less) ⊎ (row j ≡ Greater) → (row j ≡ Less → row i ≡ Less) × (row i ≡ Greater → row j ≡ Greater)
      go (inl a) = ((λ b. a), (λ b. clash (cc)))
      go (inr a) = ((λ b. clash (cc)), (λ b. a))

  -- x is the place of a row that is what is sought, or there is no such row
  pub data Decides (n : ℕ) (x : B) : Type 0 where
    hit : (m : ℕ) → m < n → row m ≡ Equal → x ≡ place m → Decides n x
    miss : ((i : ℕ) → i < n → row i ≡ Equal → ⊥) → x ≡ none → Decides n x

  module _ (n : ℕ) (up : Climbs n) where
    -- the rows before lo stand below what is sought, those from hi on above it
    record Between (lo hi : ℕ) : Type 0 where
      top : hi ≤ n
      low : (i : ℕ) → i < lo → row i ≡ Less
      high : (i : ℕ) → hi ≤ i → i < n → row i ≡ Greater

    nothing : (f lo hi : ℕ) → Between lo hi → hi ≤ lo → Decides n (binary_search row place none f lo hi)
    nothing f lo hi b h = miss (λ i l e. go i l e (three i lo)) (stop f lo hi h)
      where
        go : (i : ℕ) → i < n → row i ≡ Equal → Three i lo → ⊥
        go i l e (lt g) = clash (cc (b.low i g))
        go i l e (eq g) = clash (cc (b.high i (omega arith) l))
        go i l e (gt g) = clash (cc (b.high i (omega arith) l))

    more : (lo hi m : ℕ) → Between lo hi → m < hi → row m ≡ Less → Between (m + 1) hi
    more lo hi m b l e = record { top = b.top; low = λ i h. go i h (three i m); high = b.high }
      where
        go : (i : ℕ) → i < m + 1 → Three i m → row i ≡ Less
        go i h (lt g) = (up i m g (omega (arith, b.top))).0 e
        go i h (eq g) = ap row g ∙ e
        go i h (gt g) = absurd (omega arith)

    less : (lo hi m : ℕ) → Between lo hi → m < hi → row m ≡ Greater → Between lo m
    less lo hi m b l e = record { top = omega (arith, b.top); low = b.low; high = λ i h k. go i h k (three m i) }
      where
        go : (i : ℕ) → m ≤ i → i < n → Three m i → row i ≡ Greater
        go i h k (lt g) = (up m i g k).1 e
        go i h k (eq g) = ap row (sym g) ∙ e
        go i h k (gt g) = absurd (omega arith)

    decides : (f lo hi : ℕ) → Between lo hi → hi - lo ≤ f → Decides n (binary_search row place none f lo hi)
    unfolding binary_search
    decides zero lo hi b l = nothing zero lo hi b (omega arith)
    decides (suc f) lo hi b l = go (three lo hi) (decides f)
      where
        turned : ((lo hi : ℕ) → Between lo hi → hi - lo ≤ f → Decides n (binary_search row place none f lo hi)) → lo < hi → (o : Ordering) → row (lo + (hi - lo) / 2) ≡ o
            → Decides n (by_order o (binary_search row place none f (lo + (hi - lo) / 2 + 1) hi) (place (lo + (hi - lo) / 2)) (binary_search row place none f lo (lo + (hi - lo) / 2)))
        turned r g Less e = r (lo + (hi - lo) / 2 + 1) hi (more lo hi (lo + (hi - lo) / 2) b (omega arith) e) (omega arith)
        turned r g Equal e = hit (lo + (hi - lo) / 2) (omega (arith, b.top)) e refl
        turned r g Greater e = r lo (lo + (hi - lo) / 2) (less lo hi (lo + (hi - lo) / 2) b (omega arith) e) (omega arith)

        go : Three lo hi → ((lo hi : ℕ) → Between lo hi → hi - lo ≤ f → Decides n (binary_search row place none f lo hi)) → Decides n (binary_search row place none (suc f) lo hi)
        go (lt g) r = rw (lt-ltb lo hi g) (turned r g (row (lo + (hi - lo) / 2)) refl)
        go (eq g) r = nothing (suc f) lo hi b (omega arith)
        go (gt g) r = nothing (suc f) lo hi b (omega arith)

    pub climb_decides : Decides n (binary_search row place none n 0 n)
    climb_decides =
        decides n 0 n (record { top = omega arith; low = λ i l. absurd (omega arith); high = λ i l m. absurd (omega arith) }) (omega arith)

  pub halve_decides : (n : ℕ) → Ascends n → Decides n (binary_search row place none n 0 n)
  halve_decides n up = climb_decides n (ascending_climbs n up)

-- what a search that gives the place in an Option says of one that gives something else: read off by g, and found or not
module _ {B : Type 0} (row : ℕ → Ordering) where
  pub searched_by : (g : Option ℕ → B) (f lo hi : ℕ)
      → g (binary_search row Some None f lo hi) ≡ binary_search row (λ (i : ℕ). g (Some i)) (g None) f lo hi
  unfolding binary_search
  searched_by g zero lo hi = refl
  searched_by g (suc f) lo hi = go (ltb lo hi) (row (lo + (hi - lo) / 2)) (searched_by g f)
    where
      go : (t : Bool) (o : Ordering)
          → ((lo hi : ℕ) → g (binary_search row Some None f lo hi) ≡ binary_search row (λ (i : ℕ). g (Some i)) (g None) f lo hi)
          → g (cond t (by_order o (binary_search row Some None f (lo + (hi - lo) / 2 + 1) hi) (Some (lo + (hi - lo) / 2)) (binary_search row Some None f lo (lo + (hi - lo) / 2))) None)
          ≡ cond t (by_order o (binary_search row (λ (i : ℕ). g (Some i)) (g None) f (lo + (hi - lo) / 2 + 1) hi) (g (Some (lo + (hi - lo) / 2))) (binary_search row (λ (i : ℕ). g (Some i)) (g None) f lo (lo + (hi - lo) / 2))) (g None)
      go false o r = refl
      go true Less r = r (lo + (hi - lo) / 2 + 1) hi
      go true Equal r = refl
      go true Greater r = r lo (lo + (hi - lo) / 2)

  module _ (place : ℕ → B) (none : B) (n : ℕ) (x : Option ℕ) (e : x ≡ binary_search row Some None n 0 n) where
    abbrev read : Option ℕ → B
    read (Some i) = place i
    read None = none

    said : read x ≡ binary_search row place none n 0 n
    said = ap read e ∙ searched_by read n 0 n

    pub searched_at : (i : ℕ) → x ≡ Some i → place i ≡ binary_search row place none n 0 n
    searched_at i h = ap read (sym h) ∙ said

    pub searched_none : x ≡ None → none ≡ binary_search row place none n 0 n
    searched_none h = ap read (sym h) ∙ said

module _ (row : ℕ → Ordering) (n : ℕ) (x : Option ℕ) (e : x ≡ binary_search row Some None n 0 n) where
  pub searched_some : is_some x ≡ binary_search row (λ (i : ℕ). true) false n 0 n
  searched_some = ap is_some e ∙ searched_by row is_some n 0 n

  pub searched_or : (k : ℕ) → unwrap_or x k ≡ binary_search row (λ (i : ℕ). i) k n 0 n
  searched_or k = ap (λ (y : Option ℕ). unwrap_or y k) e ∙ searched_by row (λ (y : Option ℕ). unwrap_or y k) n 0 n
