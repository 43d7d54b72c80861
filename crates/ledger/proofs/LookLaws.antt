-- What each need of the look-up asks.
-- Assumes nothing.
use mathlib.Core.Path.{◌≡◌, sym, ap, ◌∙◌}
use mathlib.Core.Bool.{Bool, true, false}
use mathlib.Core.List.{[]}
use Prim.Native.Nat.{ℕ, ◌+◌, ◌-◌, ◌/◌, ◌≤◌, ◌<◌}
use native.Mathlib.Omega.{arith}
use borrow.Author.Rules.{rules}
use borrow.Author.Tests.{le-leb}
use lib.ListN.{length, take, drop, get_or, length-drop}
use lib.Seq.{take_all}
use Rattle.std.specs.declared.cmp.Ordering.{Ordering}
use Rattle.std.specs.declared.cmp.Ordering.TheVariants.{Less, Equal, Greater}
use Rattle.house.specs.Text.{Text, order_of}
use Rattle.house.proofs.SearchLaws.{Halves, halves_start, halves_end, turn_up, turn_down, turn_hit}
use Rattle.ledger.specs.Ledger.{slots_in, slots, event_in, slots_asked, found_in}

-- slots_asked
module _ (s : Text) (n : ℕ) where
  pub asked_all : n ≤ length s / 38 → n ≡ slots_asked s n
  unfolding slots_asked slots_in
  asked_all h = rw (le-leb _ _ h)

-- stands
pub stands_is : (s t : Text) (i : ℕ) (k : Text) (o : Ordering) → t ≡ get_or (slots s) i [] → length t ≡ 38 → o ≡ order_of (take 37 (drop 1 t)) k → o ≡ order_of (event_in s i) k
unfolding event_in
stands_is s t i k o e n p = p ∙ ap (λ (l : Text). order_of l k) (take_all 37 (drop 1 t) (omega (arith, length-drop 1 t)) ∙ ap (drop 1) e)

pub ruleset for_stands = (rules, stands_is)

-- is_live: what the binary search still has to do
abbrev pub Looks : Text → Text → Bool → ℕ → ℕ → Type 0
Looks s k x lo hi = Halves (λ (i : ℕ). order_of (event_in s i) k) (λ (i : ℕ). true) false x lo hi

pub looks_start : (s k : Text) (n m : ℕ) → m ≡ slots_asked s n → Looks s k (found_in s n k) 0 m
unfolding found_in
looks_start s k n m e = rw e (halves_start (λ (i : ℕ). order_of (event_in s i) k) (λ (i : ℕ). true) false (slots_asked s n))

module _ (s k : Text) (x : Bool) (lo hi : ℕ) (inv : Looks s k x lo hi) where
  pub looks_end : hi ≤ lo → false ≡ x
  looks_end h = halves_end (λ (i : ℕ). order_of (event_in s i) k) (λ (i : ℕ). true) false x lo hi inv h

  module _ (h : lo < hi) (o : Ordering) (e : o ≡ order_of (event_in s (lo + (hi - lo) / 2)) k) where
    pub looks_up : o ≡ Less → Looks s k x (lo + (hi - lo) / 2 + 1) hi
    looks_up z = turn_up (λ (i : ℕ). order_of (event_in s i) k) (λ (i : ℕ). true) false x lo hi inv h o (sym e) z

    pub looks_down : o ≡ Greater → Looks s k x lo (lo + (hi - lo) / 2)
    looks_down z = turn_down (λ (i : ℕ). order_of (event_in s i) k) (λ (i : ℕ). true) false x lo hi inv h o (sym e) z

    pub looks_hit : o ≡ Equal → true ≡ x
    looks_hit z = turn_hit (λ (i : ℕ). order_of (event_in s i) k) (λ (i : ℕ). true) false x lo hi inv h o (sym e) z

pub ruleset for_is_live = (rules, looks_start, looks_end, looks_up, looks_down, looks_hit)
