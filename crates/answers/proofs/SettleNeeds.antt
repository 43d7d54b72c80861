-- What each need of the functions that settle the blocks of an index asks.
-- Assumes nothing.
use mathlib.Core.Path.{◌≡◌, refl, sym, ap, ◌∙◌}
use mathlib.Core.Bool.{Bool, true, false, cond}
use mathlib.Core.List.{List, [], ◌∷◌}
use Prim.Native.Nat.{ℕ, suc, ◌+◌, ◌-◌, ◌/◌, ◌≤◌, ◌<◌}
use native.Mathlib.Omega.{arith}
use borrow.Author.Rules.{rules}
use borrow.Author.Tests.{le-leb, lt-leb, leb-true}
use lib.Dec.{leb}
use lib.ListN.{length, take}
use Rattle.house.specs.Text.{Text, those, order_of, same}
use Rattle.house.proofs.Small.{both, clash}
use Rattle.house.proofs.Decisions.{same_true}
use Rattle.ledger.specs.Ledger.{slots_in}
use Rattle.ledger.specs.Updates.{updated}
use Rattle.ledger.proofs.FoundLaws.{those_le}
use Rattle.rules.specs.Firsts.{is_typed, part_of}
use Rattle.house.specs.Over.{over}
use Rattle.house.proofs.OverLaws.{over_taken, length_over}
use Rattle.rules.proofs.CountLaws.{part_few}
use Rattle.answers.specs.declared.settle.Counts.{Counts}
use Rattle.answers.specs.Settled.{counts_of, has_room, settled_of, settled_ledger, settled_index}
use Rattle.std.proofs.Common.{Option, Some, None}

-- update_by
module _ (f : Text) (ix ix' : List ℕ) (a : ℕ) (ex : ix' ≡ over (part_of f 65 ix) ix) (ea : a ≡ length (part_of f 65 ix)) where
  pub update_adds : a ≤ length ix'
  update_adds = omega (arith, part_few f 65 ix, ap length ex, length_over (part_of f 65 ix) ix)

  pub renewed : (l l' : Text) (live : ℕ) (ps : List ℕ) → l' ≡ updated l live f (take (a - 0) ix') ps → l' ≡ updated l live f (part_of f 65 ix) ps
  renewed l l' live ps e =
      let p : take (a - 0) ix' ≡ part_of f 65 ix = ap (take (a - 0)) ex ∙ over_taken (part_of f 65 ix) ix (a - 0) (omega arith) (part_few f 65 ix) in
      e ∙ ap (λ (gs : List ℕ). updated l live f gs ps) p

pub ruleset for_update_by = (rules, update_adds, renewed)

-- update_with_deletes
module _ (f : Text) (ix out out' : List ℕ) (d : ℕ) (eo : out' ≡ over (part_of f 68 ix) out) (ed : d ≡ length (part_of f 68 ix)) (room : length ix ≤ length out) where
  pub update_deletes : d ≤ length out'
  update_deletes = omega (arith, part_few f 68 ix, ap length eo, length_over (part_of f 68 ix) out)

  pub renewed_in : (l l' : Text) (live : ℕ) → l' ≡ updated l live f (part_of f 65 ix) (take (d - 0) out') → l' ≡ updated l live f (part_of f 65 ix) (part_of f 68 ix)
  renewed_in l l' live e =
      let p : take (d - 0) out' ≡ part_of f 68 ix = ap (take (d - 0)) eo ∙ over_taken (part_of f 68 ix) out (d - 0) (omega arith) (omega (arith, part_few f 68 ix)) in
      e ∙ ap (updated l live f (part_of f 65 ix)) p

pub ruleset for_update_with_deletes = (rules, update_deletes, renewed_in)

-- where all add, none changes and none deletes
those_all : (p : ℕ → Bool) (xs : List ℕ) → length (those p xs) ≡ length xs → those p xs ≡ xs
those_all p [] h = refl
those_all p (x ∷ xs) h = go (p x) (those_all p xs) h
  where
    go : (b : Bool) → (length (those p xs) ≡ length xs → those p xs ≡ xs) → length (cond b (x ∷ those p xs) (those p xs)) ≡ suc (length xs)
        → cond b (x ∷ those p xs) (those p xs) ≡ x ∷ xs
    go true r e = ap (λ (l : List ℕ). x ∷ l) (r (omega arith))
    go false r e = absurd (omega (arith, those_le p xs))

those_none : (p q : ℕ → Bool) (xs : List ℕ) → ((x : ℕ) → p x ≡ true → q x ≡ false) → length (those p xs) ≡ length xs → those q xs ≡ []
those_none p q [] f h = refl
those_none p q (x ∷ xs) f h = go (those_none p q xs f) (p x) refl h
  where
    go : (length (those p xs) ≡ length xs → those q xs ≡ []) → (b : Bool) → p x ≡ b → length (cond b (x ∷ those p xs) (those p xs)) ≡ suc (length xs)
        → cond (q x) (x ∷ those q xs) (those q xs) ≡ []
    go r true k e = rw (f x k) (r (omega arith))
    go r false k e = absurd (omega (arith, those_le p xs))

over_self : (ps : List ℕ) → over ps ps ≡ ps
over_self [] = refl
over_self (p ∷ ps) = ap (λ (l : List ℕ). p ∷ l) (over_self ps)

module _ (f : Text) (ix : List ℕ) (a : ℕ) (ea : a ≡ length (part_of f 65 ix)) (all : a ≡ length ix) where
  all_add : part_of f 65 ix ≡ ix
  unfolding part_of
  all_add = those_all (is_typed f 65) ix (sym ea ∙ all)

  -- a line is of one type
  no_other : (type : ℕ) → same (65 ∷ []) (type ∷ []) ≡ false → part_of f type ix ≡ []
  unfolding part_of is_typed
  no_other type h = those_none (is_typed f 65) (is_typed f type) ix (λ p e. rw (same_true _ _ e) h) (sym ea ∙ all)

  no_change : part_of f 67 ix ≡ []
  unfolding same order_of
  no_change = no_other 67 refl

  no_delete : part_of f 68 ix ≡ []
  unfolding same order_of
  no_delete = no_other 68 refl

  -- bring_up_to_date
  pub all_renewed : (l l' : Text) (live : ℕ) → l' ≡ updated l live f ix [] → l' ≡ updated l live f (part_of f 65 ix) (part_of f 68 ix)
  all_renewed l l' live e = rw (all_add, no_delete) e

  pub all_kept : ix ≡ over (part_of f 65 ix) ix
  all_kept = rw all_add (sym (over_self ix))

  -- count_types
  pub counts_all : record { added = a; changed = 0; deleted = 0 } ≡ counts_of f ix
  unfolding counts_of
  counts_all = rw (no_change, no_delete, ← ea)

pub ruleset for_bring_up_to_date = (rules, all_renewed, all_kept)

-- count_types
pub counts_are : (f : Text) (ix : List ℕ) (a c d : ℕ) → a ≡ length (part_of f 65 ix) → c ≡ length (part_of f 67 ix) → d ≡ length (part_of f 68 ix) → record { added = a; changed = c; deleted = d } ≡ counts_of f ix
unfolding counts_of
counts_are f ix a c d ea ec ed = rw (ea, ec, ed)

pub counts_few : (f : Text) (ix : List ℕ) (type n : ℕ) → n ≡ length (part_of f type ix) → length ix ≤ 96154 → n ≤ 96154
counts_few f ix type n e h = omega (arith, part_few f type ix)

pub ruleset for_count_types = (rules, counts_all, counts_are, counts_few)

-- room_for
module _ (f l : Text) (live : ℕ) (ix : List ℕ) where
  pub many_none : 96154 < length ix → None ≡ settled_of f l live ix
  unfolding settled_of has_room
  many_none h = rw (lt-leb (length ix) 96154 h)

  module _ (n : Counts) (en : n ≡ counts_of f ix) (few : length ix ≤ 96154) where
    adds_are : n.added ≡ length (part_of f 65 ix)
    unfolding counts_of
    adds_are = ap (λ (k : Counts). k.added) en

    deletes_are : n.deleted ≡ length (part_of f 68 ix)
    unfolding counts_of
    deletes_are = ap (λ (k : Counts). k.deleted) en

    pub full_none : length l / 38 + n.deleted < live + n.added → None ≡ settled_of f l live ix
    unfolding settled_of has_room slots_in
    full_none h = rw (le-leb (length ix) 96154 few, ← adds_are, ← deletes_are, lt-leb (live + n.added) (length l / 38 + n.deleted) h)

    pub over_none : length l / 38 + n.deleted < live → None ≡ settled_of f l live ix
    over_none h = full_none (omega arith)

    pub fits_done : live + n.added ≤ length l / 38 + n.deleted → Some n ≡ settled_of f l live ix
    unfolding settled_of has_room slots_in
    fits_done h = rw (le-leb (length ix) 96154 few, ← adds_are, ← deletes_are, le-leb (live + n.added) (length l / 38 + n.deleted) h, en)

pub ruleset for_room_for = (rules, many_none, over_none, full_none, fits_done)

-- settle
module _ (f l : Text) (live : ℕ) (ix : List ℕ) (s : Option Counts) (es : s ≡ settled_of f l live ix) where
  room_if : (n : Counts) → s ≡ Some n → has_room f l live ix ≡ true
  unfolding settled_of
  room_if n z = go (has_room f l live ix) (sym es ∙ z)
    where
      go : (b : Bool) → cond b (Some (counts_of f ix)) None ≡ Some n → b ≡ true
      go true e = refl
      go false e = clash (cc)

  none_if : s ≡ None → has_room f l live ix ≡ false
  unfolding settled_of
  none_if z = go (has_room f l live ix) (sym es ∙ z)
    where
      go : (b : Bool) → cond b (Some (counts_of f ix)) None ≡ None → b ≡ false
      go true e = clash (cc)
      go false e = refl

  pub done_few : (n : Counts) → s ≡ Some n → length ix ≤ 96154
  unfolding has_room
  done_few n z =
      leb-true (length ix) 96154 (both (leb (length ix) 96154) (leb (live + length (part_of f 65 ix)) (slots_in l + length (part_of f 68 ix))) (room_if n z)).0

  pub done_added : (n : Counts) → s ≡ Some n → n.added ≡ length (part_of f 65 ix)
  unfolding settled_of counts_of
  done_added n z = go (has_room f l live ix) (sym es ∙ z)
    where
      go : (b : Bool) → cond b (Some (counts_of f ix)) None ≡ Some n → n.added ≡ length (part_of f 65 ix)
      go true e = sym (cc)
      go false e = clash (cc)

  pub done_ledger : (n : Counts) (l' : Text) → s ≡ Some n → l' ≡ updated l live f (part_of f 65 ix) (part_of f 68 ix) → l' ≡ settled_ledger f l live ix
  unfolding settled_ledger
  done_ledger n l' z e = rw (room_if n z) e

  pub done_index : (n : Counts) (ix' : List ℕ) → s ≡ Some n → ix' ≡ over (part_of f 65 ix) ix → ix' ≡ settled_index f l live ix
  unfolding settled_index
  done_index n ix' z e = rw (room_if n z) e

  pub none_ledger : s ≡ None → l ≡ settled_ledger f l live ix
  unfolding settled_ledger
  none_ledger z = rw (none_if z)

  pub none_index : s ≡ None → ix ≡ settled_index f l live ix
  unfolding settled_index
  none_index z = rw (none_if z)

  pub as_told : (r : Option Counts) → s ≡ r → r ≡ settled_of f l live ix
  as_told r z = sym z ∙ es

pub ruleset for_settle = (rules, done_few, done_added, done_ledger, done_index, none_ledger, none_index, as_told)
