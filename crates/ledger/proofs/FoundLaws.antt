-- In a ledger in order: how many events are live, that they ascend, and that a binary search finds an event exactly if it is among them.
-- Assumes nothing.
use mathlib.Core.Path.{◌≡◌, refl, sym, ap, ◌∙◌, subst}
use mathlib.Core.Logic.{◌⊎◌, inl, inr, ⊎_elim}
use mathlib.Core.Bool.{Bool, true, false, cond, ◌&&◌, ◌||◌}
use mathlib.Core.List.{List, [], ◌∷◌, map}
use Prim.Native.Nat.{ℕ, zero, suc, ◌/◌, ◌%◌, ◌≤◌, ◌<◌}
use native.Mathlib.Nat.{not-suc-le-zero, le_of_suc-le-suc}
use native.Mathlib.Omega.{arith}
use borrow.Author.Tests.{le-leb}
use lib.Dec.{eqb, leb}
use lib.ListN.{length, take, drop, get_or, length-map, get_or-map}
use lib.Seq.{get_or-take}
use Rattle.std.specs.declared.cmp.Ordering.TheVariants.{Less, Greater}
use Rattle.house.specs.Text.{Text, any, all, those, adjacent, order_of, same}
use Rattle.house.proofs.Small.{both}
use Rattle.house.proofs.OrderAlgebra.{flip, same_eq}
use Rattle.house.proofs.Decisions.{is_same_lem, not_same, below_less, order_refl}
use Rattle.house.proofs.SearchLaws.{Decides, hit, miss, halve_decides}
use Rattle.lines_places.specs.Inside.{Lt, Asc}
use Rattle.lines_places.proofs.Ranks.{order, le_lt_trans}
use Rattle.lines_places.proofs.Order.{all_at}
use Rattle.ledger.specs.Ledger.{slots_in, slots, is_live_slot, slot_form, slot_follows, ledger_ok, live_in, is_among, live_slot, event_in, slots_asked, found_in}
use Rattle.ledger.specs.Updates.{whole}
use Rattle.ledger.proofs.SlotLaws.{length_slots}
use Rattle.ledger.proofs.LiveLaws.{in_order_lem, live_slots, live_asc}
use Rattle.std.specs.Ordering.{ordering_reverse}

pub those_le : {A : Type 0} (p : A → Bool) (xs : List A) → length (those p xs) ≤ length xs
those_le p [] = omega arith
those_le {A} p (x ∷ xs) = go (p x) (those_le p xs)
  where
    go : (b : Bool) → length (those p xs) ≤ length xs → length (cond b (x ∷ those p xs) (those p xs)) ≤ suc (length xs)
    go true h = omega arith
    go false h = omega arith

asc_at : (i j : ℕ) (xs : List Text) → Asc whole xs → i < j → j < length xs → Lt (get_or xs i []) (get_or xs j [])
asc_at i j [] a h k = absurd (not-suc-le-zero k)
asc_at i zero (x ∷ xs) a h k = absurd (not-suc-le-zero h)
asc_at zero (suc j) (x ∷ xs) a h k = all_at (λ (y : Text). Lt x y) [] j xs a.0 (le_of_suc-le-suc k)
asc_at (suc i) (suc j) (x ∷ xs) a h k = asc_at i j xs a.1 (le_of_suc-le-suc h) (le_of_suc-le-suc k)

among_at : (e : Text) (i : ℕ) (xs : List Text) → i < length xs → get_or xs i [] ≡ e → is_among xs e ≡ true
unfolding is_among
among_at e i [] h q = absurd (not-suc-le-zero h)
among_at e zero (x ∷ xs) h q = rw (is_same_lem e x (sym q))
among_at e (suc i) (x ∷ xs) h q = go (same e x) (among_at e i xs (le_of_suc-le-suc h) q)
  where
    go : (b : Bool) → any (same e) xs ≡ true → (b || any (same e) xs) ≡ true
    go true r = refl
    go false r = r

among_nowhere : (e : Text) (xs : List Text) → ((i : ℕ) → i < length xs → get_or xs i [] ≡ e → ⊥) → is_among xs e ≡ false
unfolding is_among
among_nowhere e [] f = refl
among_nowhere e (x ∷ xs) f =
    rw (not_same e x (λ q. f 0 (omega arith) (sym q))) (among_nowhere e xs (λ i h. f (suc i) (omega arith)))

module _ (l : Text) (h : adjacent slot_follows (slots l) ≡ true) where
  pub live_length : length (live_in l) ≡ length (those is_live_slot (slots l))
  unfolding live_in
  live_length = length-map (those is_live_slot (slots l)) (drop 1)

  pub live_fits : length (those is_live_slot (slots l)) ≤ length l / 38
  live_fits = omega (arith, those_le is_live_slot (slots l), length_slots l)

  -- the live slots stand first
  pub live_first : take (length (those is_live_slot (slots l))) (slots l) ≡ map live_slot (live_in l)
  unfolding live_in
  live_first = (in_order_lem (slots l) h).0 ∙ sym (live_slots (slots l))

  -- their events ascend
  pub live_up : Asc whole (live_in l)
  unfolding live_in
  live_up = live_asc (map (drop 1) (those is_live_slot (slots l))) (subst (Asc whole) (sym (live_slots (slots l))) (in_order_lem (slots l) h).1)

  event_at_lem : (i : ℕ) → i < length (live_in l) → event_in l i ≡ get_or (live_in l) i []
  unfolding event_in live_in
  event_at_lem i k =
      let n : i < length (those is_live_slot (slots l)) = omega (arith, length-map (those is_live_slot (slots l)) (drop 1)) in
      ap (drop 1) (sym (get_or-take (length (those is_live_slot (slots l))) (slots l) i [] n) ∙ ap (λ (S : List Text). get_or S i []) (in_order_lem (slots l) h).0)
      ∙ sym (get_or-map (drop 1) (those is_live_slot (slots l)) i [])

  module _ (e : Text) where
    rows_up : (i j : ℕ) → i < j → j < length (live_in l) → (order_of (event_in l i) e ≡ Less) ⊎ (order_of (event_in l j) e ≡ Greater)
    rows_up i j p q =
        ⊎_elim
        (λ le. inr (ap (λ (x : Text). order_of x e) (event_at_lem j q) ∙ flip e (get_or (live_in l) j []) ∙ ap ordering_reverse (below_less e (get_or (live_in l) j []) (le_lt_trans e (get_or (live_in l) i []) (get_or (live_in l) j []) le (asc_at i j (live_in l) live_up p q)))))
        (λ lt. inl (ap (λ (x : Text). order_of x e) (event_at_lem i (omega arith)) ∙ below_less (get_or (live_in l) i []) e lt))
        (order e (get_or (live_in l) i []))

    decided : (x : Bool) → Decides (λ (i : ℕ). order_of (event_in l i) e) (λ (i : ℕ). true) false (length (live_in l)) x → x ≡ is_among (live_in l) e
    decided x (hit m k s q) = q ∙ sym (among_at e m (live_in l) k (sym (event_at_lem m k) ∙ same_eq (event_in l m) e s))
    decided x (miss f q) = q ∙ sym (among_nowhere e (live_in l) (λ i k g. f i k (ap (λ (y : Text). order_of y e) (event_at_lem i k ∙ g) ∙ order_refl e)))

    -- a binary search finds what is live
    pub found_among : (n : ℕ) → n ≡ length (live_in l) → found_in l n e ≡ is_among (live_in l) e
    unfolding found_in slots_asked slots_in
    found_among n q =
        let k : length (live_in l) ≤ length l / 38 = omega (arith, live_length, live_fits) in
        rw (q, le-leb (length (live_in l)) (length l / 38) k)
        (decided _ (halve_decides (λ (i : ℕ). order_of (event_in l i) e) (λ (i : ℕ). true) false (length (live_in l)) rows_up))

-- a ledger that is well formed is in order, and has whole slots
module _ (l : Text) (ok : ledger_ok l ≡ true) where
  parts : (eqb (length l % 38) 0 ≡ true) × (adjacent slot_follows (slots l) ≡ true)
  unfolding ledger_ok
  parts =
      let p = both (eqb (length l % 38) 0) (leb (slots_in l) 100000 && (all slot_form (slots l) && adjacent slot_follows (slots l))) ok in
      let q = both (leb (slots_in l) 100000) (all slot_form (slots l) && adjacent slot_follows (slots l)) p.1 in
      (p.0, (both (all slot_form (slots l)) (adjacent slot_follows (slots l)) q.1).1)

  pub ok_whole : eqb (length l % 38) 0 ≡ true
  ok_whole = parts.0

  pub ok_order : adjacent slot_follows (slots l) ≡ true
  ok_order = parts.1

  -- the look-up is whether the event is live
  pub found_live : (n : ℕ) (e : Text) → n ≡ length (live_in l) → found_in l n e ≡ is_among (live_in l) e
  found_live n e q = found_among l ok_order e n q
