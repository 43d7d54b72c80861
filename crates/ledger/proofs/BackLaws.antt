-- What each need of the merge from the end asks: i of the slots and j of the adds are still to be placed, and what is placed stands from i + j on.
-- Assumes nothing.
use mathlib.Core.Path.{◌≡◌, refl, sym, ap, ap₂, ◌∙◌}
use mathlib.Core.Bool.{Bool, true, false, not, cond, ◌&&◌}
use mathlib.Core.List.{List, [], ◌∷◌, ◌++◌, append_assoc}
use mathlib.Core.Logic.{◌⊎◌, inl, inr}
use Prim.Native.Nat.{ℕ, zero, suc, ◌+◌, ◌-◌, ◌/◌, ◌≤◌, ◌<◌}
use native.Mathlib.Nat.{add-zero}
use native.Mathlib.Omega.{arith}
use borrow.Author.Rules.{rules}
use borrow.Author.Tests.{lt-ltb, le-leb, ltb-true, ltb-false, not-true, not-false}
use lib.Dec.{ltb}
use lib.ListN.{length, take, drop, get_or, set, length-set, take-append-drop}
use lib.Seq.{drop-cons, drop-set-lt, take-set-le, take-take, get_or-set_same, get_or-take}
use Rattle.house.specs.Text.{Text, below}
use Rattle.house.proofs.Small.{both}
use Rattle.lines_places.specs.Events.{event_at, events_at}
use Rattle.ledger.specs.Ledger.{slots, live_slot}
use Rattle.ledger.specs.Updates.{slots_for, put_after, merged_up_to}
use Rattle.ledger.specs.Inside.{slot_before, goes_last, last_of}
use Rattle.ledger.proofs.SlotLaws.{length_slots}
use Rattle.ledger.proofs.WriteLaws.{last_some}

pub length_for : (f : Text) (ps : List ℕ) → length (slots_for f ps) ≡ length ps
unfolding slots_for events_at
length_for f [] = refl
length_for f (p ∷ ps) = ap suc (length_for f ps)

for_at : (f : Text) (ps : List ℕ) (j : ℕ) → j < length ps → get_or (slots_for f ps) j [] ≡ live_slot (event_at f (get_or ps j 0))
unfolding slots_for events_at
for_at f [] j h = absurd (omega arith)
for_at f (p ∷ ps) zero h = refl
for_at f (p ∷ ps) (suc j) h = for_at f ps j (omega arith)

-- one slot stored just before what is done
drop_set : (S : List Text) (k : ℕ) (x : Text) → k < length S → drop k (set S k x) ≡ x ∷ drop (suc k) S
drop_set S k x h =
    drop-cons (set S k x) k [] (omega (arith, length-set S k x)) ∙ rw (get_or-set_same S k x [] h, drop-set-lt (suc k) S k x (omega arith))

-- which of both goes last
module _ (ss added : List Text) where
  step_left : (i j : ℕ) → below (get_or ss i []) (get_or added j []) ≡ false → merged_up_to ss added (suc j) (suc i) ≡ merged_up_to ss added (suc j) i ++ (get_or ss i [] ∷ [])
  unfolding merged_up_to put_after
  step_left i j e = rw e

  step_right : (i j : ℕ) → (i ≡ 0) ⊎ (below (get_or ss (i - 1) []) (get_or added j []) ≡ true) → merged_up_to ss added (suc j) i ≡ merged_up_to ss added j i ++ (get_or added j [] ∷ [])
  unfolding merged_up_to put_after
  step_right zero j e = refl
  step_right (suc i) j (inl e) = absurd (omega arith)
  step_right (suc i) j (inr e) =
      let q : suc i - 1 ≡ i = omega arith in
      let k : below (get_or ss i []) (get_or added j []) ≡ true = ap (λ (m : ℕ). below (get_or ss m []) (get_or added j [])) (sym q) ∙ e in
      rw k

  merged_left : (i j : ℕ) → 0 < i → 0 < j → below (get_or ss (i - 1) []) (get_or added (j - 1) []) ≡ false → merged_up_to ss added j i ≡ merged_up_to ss added j (i - 1) ++ (get_or ss (i - 1) [] ∷ [])
  merged_left i j h k e =
      let p : i ≡ suc (i - 1) = omega arith in
      let q : j ≡ suc (j - 1) = omega arith in
      ap₂ (merged_up_to ss added) q p ∙ step_left (i - 1) (j - 1) e ∙ ap (λ (m : ℕ). merged_up_to ss added m (i - 1) ++ (get_or ss (i - 1) [] ∷ [])) (sym q)

  merged_right : (i j : ℕ) → 0 < j → (i ≡ 0) ⊎ (below (get_or ss (i - 1) []) (get_or added (j - 1) []) ≡ true) → merged_up_to ss added j i ≡ merged_up_to ss added (j - 1) i ++ (get_or added (j - 1) [] ∷ [])
  merged_right i j k e =
      let q : j ≡ suc (j - 1) = omega arith in
      ap (λ (m : ℕ). merged_up_to ss added m i) q ∙ step_right i (j - 1) e

module _ (f : Text) (ps : List ℕ) (l₀ : Text) (n : ℕ) where
  pub record Back (l : Text) (i j : ℕ) : Type 0 where
    pub size : length l ≡ length l₀
    pub room : n + length ps ≤ length l₀ / 38
    pub left : i ≤ n
    pub right : j ≤ length ps
    pub low : take i (slots l) ≡ take i (slots l₀)
    pub done : merged_up_to (slots l₀) (slots_for f ps) j i ++ drop (i + j) (slots l) ≡ merged_up_to (slots l₀) (slots_for f ps) (length ps) n ++ drop (n + length ps) (slots l₀)

  pub back_start : n + length ps ≤ length l₀ / 38 → Back l₀ n (length ps)
  back_start h = record {
    size = refl;
    room = h;
    left = omega arith;
    right = omega arith;
    low = refl;
    done = refl;
  }

  module _ (l : Text) (i j : ℕ) (b : Back l i j) where
    pub back_end : j ≤ 0 → slots l ≡ merged_up_to (slots l₀) (slots_for f ps) (length ps) n ++ drop (n + length ps) (slots l₀)
    unfolding merged_up_to
    back_end h =
        let e : j ≡ 0 = omega arith in
        sym (take-append-drop i (slots l)) ∙ rw b.low (rw (e, add-zero) at b.done)

    pub back_in : 0 < j → i + j - 1 < length l / 38
    back_in h = omega (arith, b.size, b.room, b.left, b.right)

    module _ (more : 0 < j) (t : Text) (et : t ≡ slot_before f ps j) (r : Bool) (er : r ≡ goes_last (slots l) i t) where
      at : t ≡ get_or (slots_for f ps) (j - 1) []
      unfolding slot_before
      at = et ∙ rw (lt-ltb 0 j more, le-leb j (length ps) b.right) (sym (for_at f ps (j - 1) (omega (arith, b.right))))

      pub back_falls : r ≡ true → i - 1 + j < i + j
      back_falls z = omega (arith, last_some (slots l) i t r er z)

      -- the slot at i - 1 is as it was
      seen : (s : Text) → 0 < i → s ≡ get_or (slots l) (i - 1) [] → s ≡ get_or (slots l₀) (i - 1) []
      seen s h e =
          e ∙ sym (get_or-take i (slots l) (i - 1) [] (omega arith)) ∙ ap (λ (S : List Text). get_or S (i - 1) []) b.low ∙ get_or-take i (slots l₀) (i - 1) [] (omega arith)

      stored : (m x : Text) → slots m ≡ set (slots l) (i + j - 1) x → drop (i + j - 1) (slots m) ≡ x ∷ drop (i + j) (slots l)
      stored m x e =
          let q : suc (i + j - 1) ≡ i + j = omega arith in
          ap (drop (i + j - 1)) e ∙ drop_set (slots l) (i + j - 1) x (omega (arith, back_in more, length_slots l)) ∙ ap (λ (k : ℕ). x ∷ drop k (slots l)) q

      pub back_left : (m : Text) → r ≡ true → slots m ≡ set (slots l) (i + j - 1) (last_of (slots l) i t) → length m ≡ length l → Back m (i - 1) j
      unfolding goes_last last_of
      back_left m z c v =
          let s : Text = get_or (slots l) (i - 1) [] in
          let w : slots m ≡ set (slots l) (i + j - 1) s = c ∙ ap (λ (u : Bool). set (slots l) (i + j - 1) (cond u s t)) (sym er ∙ z) in
          let h : 0 < i = last_some (slots l) i t r er z in
          let e : s ≡ get_or (slots l₀) (i - 1) [] = seen s h refl in
          let no : below (get_or (slots l₀) (i - 1) []) (get_or (slots_for f ps) (j - 1) []) ≡ false =
          ap₂ below (sym e) (sym at) ∙ not-true (below s t) (both (ltb 0 i) (not (below s t)) (sym er ∙ z)).1 in
          let P : List Text = merged_up_to (slots l₀) (slots_for f ps) j (i - 1) in
          let q : i - 1 + j ≡ i + j - 1 = omega arith in
          let pl : merged_up_to (slots l₀) (slots_for f ps) j i ≡ P ++ (s ∷ []) = merged_left (slots l₀) (slots_for f ps) i j h more no ∙ ap (λ (x : Text). P ++ (x ∷ [])) (sym e) in
          record {
            size = v ∙ b.size;
            room = b.room;
            left = omega (arith, b.left);
            right = b.right;
            low =
                ap (take (i - 1)) w ∙ take-set-le (i - 1) (slots l) (i + j - 1) s (omega arith) ∙ sym (take-take (i - 1) i (slots l) (omega arith))
                ∙ ap (take (i - 1)) b.low ∙ take-take (i - 1) i (slots l₀) (omega arith);
            done =
                ap (λ (k : ℕ). P ++ drop k (slots m)) q ∙ ap (λ (S : List Text). P ++ S) (stored m s w) ∙ sym (append_assoc P (s ∷ []) (drop (i + j) (slots l)))
                ∙ ap (λ (S : List Text). S ++ drop (i + j) (slots l)) (sym pl) ∙ b.done;
          }

      -- the slot before i, if there is one, stands below the add
      under : r ≡ false → i ≡ 0 ⊎ (below (get_or (slots l₀) (i - 1) []) (get_or (slots_for f ps) (j - 1) []) ≡ true)
      unfolding goes_last
      under z = go (ltb 0 i) refl (sym er ∙ z)
        where
          go : (u : Bool) → ltb 0 i ≡ u → (u && not (below (get_or (slots l) (i - 1) []) t)) ≡ false → i ≡ 0 ⊎ (below (get_or (slots l₀) (i - 1) []) (get_or (slots_for f ps) (j - 1) []) ≡ true)
          go true e c =
              inr (ap₂ below (sym (seen (get_or (slots l) (i - 1) []) (ltb-true 0 i e) refl)) (sym at) ∙ not-false (below (get_or (slots l) (i - 1) []) t) c)
          go false e c = inl (omega (arith, ltb-false 0 i e))

      pub back_right : (m : Text) → r ≡ false → slots m ≡ set (slots l) (i + j - 1) (last_of (slots l) i t) → length m ≡ length l → Back m i (j - 1)
      unfolding last_of
      back_right m z c v =
          let w : slots m ≡ set (slots l) (i + j - 1) t = c ∙ ap (λ (u : Bool). set (slots l) (i + j - 1) (cond u (get_or (slots l) (i - 1) []) t)) (sym er ∙ z) in
          let P : List Text = merged_up_to (slots l₀) (slots_for f ps) (j - 1) i in
          let q : i + (j - 1) ≡ i + j - 1 = omega arith in
          let pl : merged_up_to (slots l₀) (slots_for f ps) j i ≡ P ++ (t ∷ []) = merged_right (slots l₀) (slots_for f ps) i j more (under z) ∙ ap (λ (x : Text). P ++ (x ∷ [])) (sym at) in
          record {
            size = v ∙ b.size;
            room = b.room;
            left = b.left;
            right = omega (arith, b.right);
            low = ap (take i) w ∙ take-set-le i (slots l) (i + j - 1) t (omega arith) ∙ b.low;
            done =
                ap (λ (k : ℕ). P ++ drop k (slots m)) q ∙ ap (λ (S : List Text). P ++ S) (stored m t w) ∙ sym (append_assoc P (t ∷ []) (drop (i + j) (slots l)))
                ∙ ap (λ (S : List Text). S ++ drop (i + j) (slots l)) (sym pl) ∙ b.done;
          }

pub ruleset for_merge_in = (rules, back_start, back_end, last_some, back_falls, back_in, back_left, back_right)
