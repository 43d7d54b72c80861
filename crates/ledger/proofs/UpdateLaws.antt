-- What each need of the function that makes an update asks, and what an update leaves of a well-formed ledger.
-- Assumes nothing.
use mathlib.Core.Path.{◌≡◌, refl, sym, ap, ap₂, ◌∙◌}
use mathlib.Core.Bool.{Bool, true, false, not, cond, ◌||◌}
use mathlib.Core.List.{List, [], ◌∷◌, ◌++◌, map}
use Prim.Native.Nat.{ℕ, zero, suc, ◌+◌, ◌*◌, ◌-◌, ◌/◌, ◌≤◌, ◌<◌}
use native.Mathlib.Nat.{add-zero, not-suc-le-zero, le_of_suc-le-suc}
use native.Mathlib.Omega.{arith}
use borrow.Author.Rules.{rules}
use borrow.Author.Tests.{le-leb, lt-leb}
use lib.ListN.{length, take, drop, get_or, replicate, length-map, length-append, take-append-drop}
use lib.Seq.{take_at, take-add, take_all, take-take, get_or-take, length-take-le}
use Rattle.house.specs.Text.{Text, those, how_many, joined, below, same}
use Rattle.lines_places.specs.Events.{event_at, events_at, ascends}
use Rattle.lines_places.specs.Sorted.{put_in, place}
use Rattle.lines_places.specs.Inside.{Up}
use Rattle.lines_places.proofs.Order.{up_asc, asc_those, place_sorted}
use Rattle.lines_places.proofs.SortedLaws.{keys_placed}
use Rattle.ledger.specs.Ledger.{slots_in, chop, slots, is_live_slot, ledger_ok, live_in, is_among, slots_asked, plus, less, events_after, live_slot, ledger_with}
use Rattle.ledger.specs.Updates.{whole, slots_for, without, put_after, merged_up_to, kept_in, roomed, merged, filled, updated}
use Rattle.ledger.specs.Inside.{Fit}
use Rattle.ledger.proofs.SlotLaws.{length_slots}
use Rattle.ledger.proofs.BackLaws.{length_for}
use Rattle.ledger.proofs.FitLaws.{without_less, merged_placed}
use Rattle.ledger.proofs.LiveLaws.{events_asc, asc_live, less_live, place_live, plus_place, joined_live}
use Rattle.ledger.proofs.FoundLaws.{live_length, live_fits, live_first, live_up, ok_order}
use Rattle.ledger.proofs.LookLaws.{asked_all}
use Rattle.ledger.proofs.SizeLaws.{after_length}

-- merge_roomed
module _ (l : Text) (n : ℕ) (gs : List ℕ) where
  pub room_there : n + length gs ≤ length l / 38 → gs ≡ roomed l n gs
  unfolding roomed slots_in
  room_there h = rw (le-leb (n + length gs) (length l / 38) h)

  pub room_none : length l / 38 < n + length gs → [] ≡ roomed l n gs
  unfolding roomed slots_in
  room_none h = rw (lt-leb (n + length gs) (length l / 38) h)

  pub roomed_count : (r : ℕ) → n + length gs ≤ length l / 38 → r ≡ n + length gs → r ≡ n + length (roomed l n gs)
  roomed_count r h e = e ∙ ap (λ (ps : List ℕ). n + length ps) (room_there h)

  pub unroomed_count : length l / 38 < n + length gs → n ≡ n + length (roomed l n gs)
  unroomed_count h = rw (← room_none h) (omega arith)

  module _ (f : Text) where
    pub roomed_slots : (m : Text) → n + length gs ≤ length l / 38
        → slots m ≡ merged_up_to (slots l) (slots_for f gs) (length gs) n ++ drop (n + length gs) (slots l)
        → slots m ≡ merged_up_to (slots l) (slots_for f (roomed l n gs)) (length (roomed l n gs)) n ++ drop (n + length (roomed l n gs)) (slots l)
    roomed_slots m h e = e ∙ ap (λ (ps : List ℕ). merged_up_to (slots l) (slots_for f ps) (length ps) n ++ drop (n + length ps) (slots l)) (room_there h)

    pub unroomed_slots : length l / 38 < n + length gs
        → slots l ≡ merged_up_to (slots l) (slots_for f (roomed l n gs)) (length (roomed l n gs)) n ++ drop (n + length (roomed l n gs)) (slots l)
    unfolding merged_up_to
    unroomed_slots h = rw (← room_none h, add-zero) (sym (take-append-drop n (slots l)))

pub ruleset for_merge_roomed = (rules, roomed_count, unroomed_count, roomed_slots, unroomed_slots)

-- the merge goes by the first slots alone, and has as many as both
module _ (added : List Text) where
  put_cut : (n : ℕ) (ss : List Text) (a : Text) (p q : ℕ → List Text) → ((i : ℕ) → i ≤ n → p i ≡ q i) → (i : ℕ) → i ≤ n → put_after (take n ss) a p i ≡ put_after ss a q i
  unfolding put_after
  put_cut n ss a p q e zero h = ap (λ (l : List Text). l ++ (a ∷ [])) (e zero h)
  put_cut n ss a p q e (suc i) h = rw (get_or-take n ss i [] (omega arith), e (suc i) h, put_cut n ss a p q e i (omega arith))

  merged_cut : (n : ℕ) (ss : List Text) (j i : ℕ) → i ≤ n → merged_up_to (take n ss) added j i ≡ merged_up_to ss added j i
  unfolding merged_up_to
  merged_cut n ss zero i h = take-take i n ss h
  merged_cut n ss (suc j) i h = put_cut n ss (get_or added j []) (merged_up_to (take n ss) added j) (merged_up_to ss added j) (merged_cut n ss j) i h

  put_length : (ss : List Text) (a : Text) (j : ℕ) (p : ℕ → List Text) → ((i : ℕ) → i ≤ length ss → length (p i) ≡ i + j) → (i : ℕ) → i ≤ length ss → length (put_after ss a p i) ≡ suc (i + j)
  unfolding put_after
  put_length ss a j p e zero h = omega (arith, length-append (p zero) (a ∷ []), e zero h)
  put_length ss a j p e (suc i) h = go (below (get_or ss i []) a) (put_length ss a j p e i (omega arith))
    where
      go : (b : Bool) → length (put_after ss a p i) ≡ suc (i + j) → length (cond b (p (suc i) ++ (a ∷ [])) (put_after ss a p i ++ (get_or ss i [] ∷ []))) ≡ suc (suc i + j)
      go true r = omega (arith, length-append (p (suc i)) (a ∷ []), e (suc i) h)
      go false r = omega (arith, length-append (put_after ss a p i) (get_or ss i [] ∷ []))

  merged_length : (ss : List Text) (j i : ℕ) → i ≤ length ss → length (merged_up_to ss added j i) ≡ i + j
  unfolding merged_up_to
  merged_length ss zero i h = omega (arith, length-take-le i ss h)
  merged_length ss (suc j) i h = omega (arith, put_length ss (get_or added j []) j (merged_up_to ss added j) (merged_length ss j) i h)

-- update: the slots, and what each step leaves
flat_chop : (c n : ℕ) (l : Text) → c ≤ n → joined whole (take c (chop n l)) ≡ take (c * 38) l
unfolding chop
flat_chop zero n l h = refl
flat_chop (suc c) zero l h = absurd (not-suc-le-zero h)
flat_chop (suc c) (suc n) l h =
    let e : 38 + c * 38 ≡ suc c * 38 = omega arith in
    ap (λ (r : Text). take 38 l ++ r) (flat_chop c n (drop 38 l) (le_of_suc-le-suc h)) ∙ sym (take-add 38 (c * 38) l) ∙ ap (λ (k : ℕ). take k l) e

-- the first c slots, one after the other, are the first bytes
flat_slots : (l : Text) (c : ℕ) → c ≤ length l / 38 → joined whole (take c (slots l)) ≡ take (c * 38) l
unfolding slots slots_in
flat_slots l c h = flat_chop c (length l / 38) l h

module _ (l f : Text) (gs ds : List ℕ) (live n : ℕ) (en : n ≡ slots_asked l live) (m : Text) (k : ℕ) (lm : length m ≡ length l) (ek : k ≡ length (without (slots_for f ds) (take n (slots l)))) (em : take k (slots m) ≡ without (slots_for f ds) (take n (slots l))) (o : Text) (a : ℕ) (lo : length o ≡ length m) (ha : a ≤ length m / 38) (ea : a ≡ k + length (roomed m k gs)) (eo : slots o ≡ merged_up_to (slots m) (slots_for f (roomed m k gs)) (length (roomed m k gs)) k ++ drop (k + length (roomed m k gs)) (slots m)) where
  kept_is : without (slots_for f ds) (take n (slots l)) ≡ kept_in l live f ds
  unfolding kept_in
  kept_is = ap (λ (c : ℕ). without (slots_for f ds) (take c (slots l))) en

  places_are : roomed m k gs ≡ roomed l (length (kept_in l live f ds)) gs
  unfolding roomed slots_in
  places_are = rw (lm, ← kept_is, ← ek)

  all : List Text
  all = merged (kept_in l live f ds) (slots_for f (roomed l (length (kept_in l live f ds)) gs))

  all_is : merged_up_to (slots m) (slots_for f (roomed m k gs)) (length (roomed m k gs)) k ≡ all
  unfolding all merged
  all_is =
      let added : List Text = slots_for f (roomed m k gs) in
      let b : List Text = slots_for f (roomed l (length (kept_in l live f ds)) gs) in
      let ab : added ≡ b = ap (slots_for f) places_are in
      let j : length (roomed m k gs) ≡ length added = sym (length_for f (roomed m k gs)) in
      let q : k ≡ length (kept_in l live f ds) = ek ∙ ap length kept_is in
      sym (merged_cut added k (slots m) (length (roomed m k gs)) k (omega arith))
      ∙ ap (λ (c : ℕ). merged_up_to (take k (slots m)) added c k) j
      ∙ ap (λ (ss : List Text). merged_up_to ss added (length added) k) (em ∙ kept_is)
      ∙ ap (λ (c : ℕ). merged_up_to (kept_in l live f ds) added (length added) c) q
      ∙ ap (λ (x : List Text). merged_up_to (kept_in l live f ds) x (length x) (length (kept_in l live f ds))) ab

  all_length : length all ≡ a
  all_length =
      sym (ap length all_is) ∙ merged_length (slots_for f (roomed m k gs)) (slots m) (length (roomed m k gs)) k (omega (arith, length_slots m)) ∙ sym ea

  pub update_in : a * 38 ≤ length o
  update_in = omega arith

  pub update_done : (q : Text) → q ≡ take (a * 38) o ++ replicate (length o - a * 38) 0 → q ≡ updated l live f gs ds
  unfolding updated filled all
  update_done q e =
      let t : take a (slots o) ≡ all =
      ap (take a) (eo ∙ ap (λ (S : List Text). S ++ drop (k + length (roomed m k gs)) (slots m)) all_is) ∙ take_at all (drop (k + length (roomed m k gs)) (slots m)) a all_length in
      let b : take (a * 38) o ≡ joined whole all = sym (flat_slots o a (omega arith)) ∙ ap (joined whole) t in
      let c : length o - a * 38 ≡ length l - length all * 38 = omega (arith, all_length) in
      e ∙ ap₂ (λ (x : Text) (z : ℕ). x ++ replicate z 0) b c

pub ruleset for_update = (rules, update_in, update_done)

-- Laws for the crates above

length_at : (f : Text) (gs : List ℕ) → length (events_at f gs) ≡ length gs
unfolding events_at
length_at f gs = length-map gs (event_at f)

for_live : (f : Text) (gs : List ℕ) (es : List Text) → place whole (slots_for f gs) (map live_slot es) ≡ map live_slot (plus (events_at f gs) es)
unfolding slots_for
for_live f gs es = place_live (events_at f gs) es

merged_size : (ss added : List Text) → length (merged ss added) ≡ length ss + length added
unfolding merged
merged_size ss added = merged_length added ss (length added) (length ss) (omega arith)

-- of a well-formed ledger, and events that ascend and have room
module _ (l : Text) (n : ℕ) (f : Text) (gs ds : List ℕ) (fit : Fit l n f gs ds) where
  after : List Text
  after = events_after (live_in l) (events_at f gs) (events_at f ds)

  first : take (slots_asked l n) (slots l) ≡ map live_slot (live_in l)
  first =
      let c : n ≡ length (those is_live_slot (slots l)) = fit.live_is ∙ live_length l fit.order in
      ap (λ (i : ℕ). take i (slots l)) (sym (asked_all l n (omega (arith, live_fits l))) ∙ c) ∙ live_first l fit.order

  kept : kept_in l n f ds ≡ map live_slot (less (events_at f ds) (live_in l))
  unfolding kept_in slots_for
  kept =
      ap (without (map live_slot (events_at f ds))) first
      ∙ without_less (map live_slot (events_at f ds)) (map live_slot (live_in l)) (asc_live (events_at f ds) (events_asc (events_at f ds) fit.deleted)) (asc_live (live_in l) (live_up l fit.order))
      ∙ less_live (events_at f ds) (live_in l)

  kept_up : Up whole (map live_slot (less (events_at f ds) (live_in l)))
  unfolding less
  kept_up =
      up_asc whole (map live_slot (less (events_at f ds) (live_in l)))
      (asc_live (less (events_at f ds) (live_in l)) (asc_those whole (λ (e : Text). not (is_among (events_at f ds) e)) (live_in l) (live_up l fit.order)))

  adds_up : Up whole (slots_for f gs)
  unfolding slots_for
  adds_up = up_asc whole (map live_slot (events_at f gs)) (asc_live (events_at f gs) (events_asc (events_at f gs) fit.added))

  placed : merged (kept_in l n f ds) (slots_for f gs) ≡ map live_slot after
  unfolding merged after events_after
  placed =
      let K : List Text = map live_slot (less (events_at f ds) (live_in l)) in
      let B : List Text = slots_for f gs in
      ap (λ (ss : List Text). merged_up_to ss B (length B) (length ss)) kept
      ∙ merged_placed K B kept_up adds_up (length B) (omega arith) (length K) (omega arith)
      ∙ ap₂ (place whole) (take_all (length B) B (omega arith)) (take_all (length K) K (omega arith))
      ∙ for_live f gs (less (events_at f ds) (live_in l))

  has_room_lem : roomed l (length (kept_in l n f ds)) gs ≡ gs
  unfolding after
  has_room_lem =
      let s : length (merged (kept_in l n f ds) (slots_for f gs)) ≡ length (kept_in l n f ds) + length (slots_for f gs) = merged_size (kept_in l n f ds) (slots_for f gs) in
      sym (room_there l (length (kept_in l n f ds)) gs (omega (arith, s, ap length placed, length-map after live_slot, length_for f gs, fit.room)))

  pub updated_fit : updated l n f gs ds ≡ ledger_with (length l) (events_after (live_in l) (events_at f gs) (events_at f ds))
  unfolding updated filled ledger_with after
  updated_fit =
      let e : merged (kept_in l n f ds) (slots_for f (roomed l (length (kept_in l n f ds)) gs)) ≡ map live_slot after = ap (λ (ps : List ℕ). merged (kept_in l n f ds) (slots_for f ps)) has_room_lem ∙ placed in
      ap (λ (ss : List Text). joined whole ss ++ replicate (length l - length ss * 38) 0) e
      ∙ ap₂ (λ (x : Text) (z : ℕ). x ++ replicate (length l - z * 38) 0) (sym (joined_live after)) (length-map after live_slot)

-- the room by numbers: live and added against slots and those of the deleted that are live
module _ (l f : Text) (gs ds : List ℕ) where
  pub fit_numbers : ledger_ok l ≡ true → ascends (events_at f gs) ≡ true → ascends (events_at f ds) ≡ true → length (live_in l) + length gs ≤ slots_in l + how_many (is_among (live_in l)) (events_at f ds) → Fit l (length (live_in l)) f gs ds
  unfolding slots_in
  fit_numbers ok a d r =
      record {
        order = ok_order l ok;
        live_is = refl;
        added = a;
        deleted = d;
        room = omega (arith, r, after_length (live_in l) (events_at f gs) (events_at f ds) (live_up l (ok_order l ok)) (events_asc (events_at f ds) d), length_at f gs);
      }

-- to sort the places first changes nothing
among_put : (e x : Text) (es : List Text) → is_among (put_in whole x es) e ≡ is_among (x ∷ es) e
unfolding is_among put_in
among_put e x [] = refl
among_put e x (y ∷ ys) = go (below y x) (among_put e x ys)
  where
    swap : (p q r : Bool) → (q || (p || r)) ≡ (p || (q || r))
    swap true true r = refl
    swap true false r = refl
    swap false q r = refl

    go : (b : Bool) → is_among (put_in whole x ys) e ≡ is_among (x ∷ ys) e → is_among (cond b (y ∷ put_in whole x ys) (x ∷ (y ∷ ys))) e ≡ is_among (x ∷ (y ∷ ys)) e
    go true r = ap (λ (b : Bool). same e y || b) r ∙ swap (same e x) (same e y) (is_among ys e)
    go false r = refl

among_sorted : (e : Text) (es : List Text) → is_among (place whole es []) e ≡ is_among es e
unfolding place is_among
among_sorted e [] = refl
among_sorted e (x ∷ xs) = among_put e x (place whole xs []) ∙ ap (λ (b : Bool). same e x || b) (among_sorted e xs)

those_same : {A : Type 0} (p q : A → Bool) (xs : List A) → ((x : A) → p x ≡ q x) → those p xs ≡ those q xs
those_same p q [] h = refl
those_same p q (x ∷ xs) h = rw (h x, those_same p q xs h)

pub after_sorted : (f : Text) (live : List Text) (gs ds : List ℕ)
    → events_after live (events_at f (place (event_at f) gs [])) (events_at f (place (event_at f) ds [])) ≡ events_after live (events_at f gs) (events_at f ds)
unfolding events_after events_at less
after_sorted f live gs ds =
    ap (λ (b : List Text). plus (map (event_at f) (place (event_at f) gs [])) b)
    (those_same (λ (e : Text). not (is_among (map (event_at f) (place (event_at f) ds [])) e)) (λ (e : Text). not (is_among (map (event_at f) ds) e)) live
    (λ e. ap not (ap (λ (es : List Text). is_among es e) (keys_placed (event_at f) ds []) ∙ among_sorted e (map (event_at f) ds))))
    ∙ plus_place (map (event_at f) (place (event_at f) gs [])) (less (map (event_at f) ds) live)
    ∙ ap (λ (a : List Text). place whole a (less (map (event_at f) ds) live)) (keys_placed (event_at f) gs [])
    ∙ place_sorted whole (map (event_at f) gs) (less (map (event_at f) ds) live)
    ∙ sym (plus_place (map (event_at f) gs) (less (map (event_at f) ds) live))
