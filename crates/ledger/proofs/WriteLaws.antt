-- What each need of the functions that read, make and write a slot asks, and of the one that clears the rest.
-- Assumes nothing.
use mathlib.Core.Path.{◌≡◌, sym, ap, ◌∙◌}
use mathlib.Core.Bool.{Bool, true, false, not}
use mathlib.Core.List.{List, [], ◌++◌, append_assoc}
use native.Mathlib.Nat.{add-sub_cancel_left}
use Prim.Native.Nat.{ℕ, ◌+◌, ◌*◌, ◌-◌, ◌/◌, ◌≤◌, ◌<◌}
use native.Mathlib.Omega.{arith}
use borrow.Author.Rules.{rules}
use borrow.Author.Tests.{lt-ltb, le-ltb, ltb-true, le-leb, lt-leb}
use lib.Dec.{ltb}
use lib.ListN.{length, take, drop, get_or, set, replicate}
use lib.Seq.{take_all, drop-drop}
use Rattle.std.specs.declared.cmp.Ordering.{Ordering}
use Rattle.std.specs.declared.cmp.Ordering.TheVariants.{Greater}
use Rattle.house.specs.Text.{Text, order_of, below}
use Rattle.house.proofs.Small.{both}
use Rattle.lines_places.specs.Events.{event_at}
use Rattle.ledger.specs.Ledger.{slots, live_slot}
use Rattle.ledger.specs.Inside.{slot_before, order_if, goes_last, last_of}
use Rattle.ledger.proofs.SlotLaws.{slots_paste}

-- write_slot
module _ (l s t : Text) (i : ℕ) (h : i < length l / 38) (e : t ≡ s) (n : length s ≡ 38) where
  pub write_put : slots (take (i * 38) l ++ (t ++ drop (i * 38 + 38 - i * 38) (drop (i * 38) l))) ≡ set (slots l) i s
  write_put =
      let w : take 38 s ≡ s = take_all 38 s (omega arith) in
      rw (add-sub_cancel_left, drop-drop, e, ← append_assoc) (ap (λ (u : Text). slots (take (i * 38) l ++ u ++ drop (i * 38 + 38) l)) (sym w) ∙ slots_paste l s i h n)

pub ruleset for_write_slot = (rules, write_put)

-- slot_before
module _ (f : Text) (ps : List ℕ) (j : ℕ) where
  pub before_there : (t : Text) → 0 < j → j ≤ length ps → t ≡ live_slot (event_at f (get_or ps (j - 1) 0)) → t ≡ slot_before f ps j
  unfolding slot_before
  before_there t h k e = rw (lt-ltb 0 j h, le-leb j (length ps) k) e

  pub before_none : j ≤ 0 → replicate 38 0 ≡ slot_before f ps j
  unfolding slot_before
  before_none h = rw (le-ltb 0 j h)

  pub before_past : 0 < j → length ps < j → replicate 38 0 ≡ slot_before f ps j
  unfolding slot_before
  before_past h k = rw (lt-ltb 0 j h, lt-leb j (length ps) k)

pub ruleset for_slot_before = (rules, before_there, before_none, before_past)

-- stands_to
module _ (there : Bool) (t s : Text) where
  pub stands_there : (o : Ordering) → there ≡ true → o ≡ order_of t s → o ≡ order_if there t s
  unfolding order_if
  stands_there o z e = rw z e

  pub stands_none : there ≡ false → Greater ≡ order_if there t s
  unfolding order_if
  stands_none z = rw z

pub ruleset for_stands_to = (rules, stands_there, stands_none)

-- goes_last
module _ (l t : Text) (i : ℕ) where
  module _ (h : 0 < i) (s : Text) (e : s ≡ get_or (slots l) (i - 1) []) (r : Bool) (q : r ≡ below s t) where
    pub last_not : r ≡ true → false ≡ goes_last (slots l) i t
    unfolding goes_last
    last_not z = rw (lt-ltb 0 i h, ← e, ← q, z)

    pub last_is : r ≡ false → true ≡ goes_last (slots l) i t
    unfolding goes_last
    last_is z = rw (lt-ltb 0 i h, ← e, ← q, z)

  pub last_none : i ≤ 0 → false ≡ goes_last (slots l) i t
  unfolding goes_last
  last_none h = rw (le-ltb 0 i h)

pub ruleset for_goes_last = (rules, last_not, last_is, last_none)

-- put_last
module _ (S : List Text) (i : ℕ) (t : Text) (r : Bool) (e : r ≡ goes_last S i t) where
  pub last_some : r ≡ true → 0 < i
  unfolding goes_last
  last_some z = ltb-true 0 i (both (ltb 0 i) (not (below (get_or S (i - 1) []) t)) (sym e ∙ z)).0

  pub last_yes : r ≡ true → true ≡ goes_last S i t
  last_yes z = sym z ∙ e

  pub last_no : r ≡ false → false ≡ goes_last S i t
  last_no z = sym z ∙ e

  pub last_slot : (U : List Text) (k : ℕ) (s : Text) → r ≡ true → s ≡ get_or S (i - 1) [] → U ≡ set S k s → U ≡ set S k (last_of S i t)
  unfolding last_of
  last_slot U k s z a b = rw (← e, z, ← a) b

  pub last_else : (U : List Text) (k : ℕ) → r ≡ false → U ≡ set S k t → U ≡ set S k (last_of S i t)
  unfolding last_of
  last_else U k z b = rw (← e, z) b

  pub last_before : (n : ℕ) → r ≡ true → i ≤ n → i - 1 < n
  last_before n z h = omega (arith, last_some z)

pub ruleset for_put_last = (rules, last_some, last_yes, last_no, last_slot, last_else, last_before)
