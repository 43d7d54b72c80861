-- What each need of `sort_front` and `sort_index` asks; and the index of a file, once its first places are put in order.
-- Assumes nothing.
use mathlib.Core.Path.{◌≡◌, sym, ap, ap₂, ◌∙◌}
use mathlib.Core.Bool.{Bool, true, false}
use mathlib.Core.List.{List, ◌++◌}
use Prim.Native.Nat.{ℕ, ◌≤◌, ◌<◌}
use native.Mathlib.Omega.{arith}
use borrow.Author.Rules.{rules}
use borrow.Author.Tests.{le-leb, lt-leb}
use lib.ListN.{length, take, drop}
use lib.Seq.{take_at, drop_at, length-take-le}
use Rattle.house.specs.Text.{Text}
use Rattle.lines_places.specs.Events.{events_at, ascends}
use Rattle.lines_places.specs.Sorted.{can_sort, sorted_at, sorted_apart}
use Rattle.std.proofs.Common.{Some, None}
use Rattle.rules_walk.specs.Firsts.{firsts_of, index_of, can_build, built, built_in, can_sort_front, front_of, front_in}
use Rattle.house.specs.Over.{over}
use Rattle.house.proofs.OverLaws.{over_front, length_over}
use Rattle.rules_walk.proofs.CountLaws.{index_size}

-- sort_front
pub front_size : (n : ℕ) (old : List ℕ) → n ≤ length old → n ≡ length (take n old)
front_size n old h = sym (length-take-le n old h)

pub front_sorted : (f : Text) (n : ℕ) (xs old : List ℕ) → xs ≡ sorted_at f (take n old) → xs ++ drop n old ≡ sorted_at f (take n old) ++ drop n old
front_sorted f n xs old e = ap (λ (l : List ℕ). l ++ drop n old) e

pub ruleset for_sort_front = (rules, front_size, front_sorted)

-- sort_index
module _ (f : Text) (area : List ℕ) (n : ℕ) where
  many : 96154 < n → can_sort_front area n ≡ false
  unfolding can_sort_front
  many h = rw (lt-leb n 96154 h)

  pub many_none : 96154 < n → None ≡ front_of f area n
  unfolding front_of
  many_none h = rw (many h)

  pub many_kept : 96154 < n → area ≡ front_in f area n
  unfolding front_in
  many_kept h = rw (many h)

  module _ (l : n ≤ 96154) where
    short : length area < n → can_sort_front area n ≡ false
    unfolding can_sort_front
    short h = rw (le-leb n 96154 l, lt-leb n (length area) h)

    pub short_none : length area < n → None ≡ front_of f area n
    unfolding front_of
    short_none h = rw (short h)

    pub short_kept : length area < n → area ≡ front_in f area n
    unfolding front_in
    short_kept h = rw (short h)

    module _ (h : n ≤ length area) where
      can : can_sort_front area n ≡ true
      unfolding can_sort_front
      can = rw (le-leb n 96154 l, le-leb n (length area) h)

      pub front_is : (d : Bool) → d ≡ sorted_apart f (take n area) → Some (built n d) ≡ front_of f area n
      unfolding front_of
      front_is d e = rw (can, e)

      pub front_in_lem : (y : List ℕ) → y ≡ sorted_at f (take n area) ++ drop n area → y ≡ front_in f area n
      unfolding front_in
      front_in_lem y e = rw can e

pub ruleset for_sort_index = (rules, many_none, many_kept, short_none, short_kept, front_is, front_in_lem)

-- THE INDEX OF A FILE: its first places written to the front of an area, and then put in order
module _ (f : Text) (old : List ℕ) (h : length f ≤ 5000000) (n : ℕ) (e : n ≡ length (firsts_of f)) (new : List ℕ) (i : new ≡ over (firsts_of f) old) where
  new_size : length new ≡ length old
  new_size = ap length i ∙ length_over (firsts_of f) old

  pub can_same : can_build f (length old) ≡ can_sort_front new n
  unfolding can_build can_sort_front
  can_same = rw (le-leb (length f) 5000000 h, e, new_size)

  pub not_built : can_sort_front new n ≡ false → new ≡ built_in f old
  unfolding built_in
  not_built z = rw (can_same, z, le-leb (length f) 5000000 h) i

  module _ (z : can_sort_front new n ≡ true) (g : n ≤ 96154) (k : n ≤ length new) where
    is_new : new ≡ firsts_of f ++ drop n old
    is_new = i ∙ over_front (firsts_of f) old (omega (arith, new_size)) ∙ rw (← e)

    front : take n new ≡ firsts_of f
    front = ap (take n) is_new ∙ take_at (firsts_of f) (drop n old) n (sym e)

    back : drop n new ≡ drop n old
    back = ap (drop n) is_new ∙ drop_at (firsts_of f) (drop n old) n (sym e)

    sorted : sorted_at f (firsts_of f) ≡ index_of f
    unfolding sorted_at can_sort index_of
    sorted = rw (← e, le-leb n 96154 g)

    pub index_apart : sorted_apart f (take n new) ≡ ascends (events_at f (index_of f))
    unfolding sorted_apart can_sort
    index_apart = ap (sorted_apart f) front ∙ rw (← e, le-leb n 96154 g, sorted)

    sorted_size : length (index_of f) ≡ n
    sorted_size = index_size f ∙ sym e

    is_built : built_in f old ≡ over (index_of f) old
    unfolding built_in
    is_built = rw (can_same, z)

    pub index_built : sorted_at f (take n new) ++ drop n new ≡ built_in f old
    index_built =
        ap₂ (λ (x y : List ℕ). x ++ y) (ap (sorted_at f) front ∙ sorted) back
        ∙ sym (is_built ∙ over_front (index_of f) old (omega (arith, sorted_size, new_size)) ∙ rw sorted_size)

    pub index_front : take n (sorted_at f (take n new) ++ drop n new) ≡ index_of f
    index_front = ap (λ (x : List ℕ). take n (sorted_at f x ++ drop n new)) front ∙ ap (λ (x : List ℕ). take n (x ++ drop n new)) sorted ∙ take_at (index_of f) (drop n new) n sorted_size
