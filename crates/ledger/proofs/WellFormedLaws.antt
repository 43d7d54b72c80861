-- What a well-formed ledger holds: live events of their length and form, which ascend.
-- Assumes nothing.
use Prim.Native.Nat.{ℕ, zero, suc, ◌*◌, ◌/◌, ◌%◌, ◌≤◌}
use native.Mathlib.Nat.{div-add-mod'}
use native.Mathlib.Omega.{arith}
use mathlib.Core.Path.{◌≡◌, refl, sym, ap, ◌∙◌, subst}
use mathlib.Core.Bool.{Bool, true, false, cond, ◌&&◌}
use mathlib.Core.Logic.{◌⊎◌, inl, inr}
use mathlib.Core.List.{List, [], ◌∷◌, map}
use lib.ListN.{length, drop, length-take, length-drop}
use lib.Dec.{T, eqb, leb, eqb→eq, leb→le}
use Rattle.house.specs.Text.{Text, order_of, below, all, those, chained, adjacent}
use Rattle.house.specs.Members.{In}
use Rattle.house.proofs.Facts.{both, of_true}
use Rattle.house.proofs.Members.{in_those, in_map, all_in_lem}
use Rattle.house.proofs.Decisions.{below_trans}
use Rattle.ledger.specs.Ledger.{Event, slots_in, chop, slots, event_form, is_live_slot, is_free_slot, slot_form, slot_follows, ledger_ok, live_in}
use Rattle.ledger.proofs.EventLaws.{Up}

-- an event has 37 bytes
abbrev pub AllLong : List Event → Type 0
AllLong es = (e : Event) → In e es → length e ≡ 37

pub record WellFormed (s : Text) : Type 0 where
  pub whole : length s % 38 ≡ 0
  pub most : slots_in s ≤ 100000
  pub forms : T (all slot_form (slots s))
  pub follow : T (adjacent slot_follows (slots s))

pub well_formed_lem : (s : Text) → T (ledger_ok s) → WellFormed s
unfolding ledger_ok
well_formed_lem s t =
    let p = both (eqb (length s % 38) 0) (leb (slots_in s) 100000 && (all slot_form (slots s) && adjacent slot_follows (slots s))) t in
    let q = both (leb (slots_in s) 100000) (all slot_form (slots s) && adjacent slot_follows (slots s)) p.1 in
    let r = both (all slot_form (slots s)) (adjacent slot_follows (slots s)) q.1 in
    record { whole = eqb→eq (length s % 38) 0 p.0; most = leb→le (slots_in s) 100000 q.0; forms = r.0; follow = r.1 }

chop_long : (n : ℕ) (s t : Text) → n * 38 ≤ length s → In t (chop n s) → length t ≡ 38
unfolding chop
chop_long zero s t h m = absurd m
chop_long (suc n) s t h (inl e) = ap length e ∙ length-take 38 s ∙ omega arith
chop_long (suc n) s t h (inr m) = chop_long n (drop 38 s) t (let k = length-drop 38 s in omega arith) m

-- a live slot is 1 and its event
pub live_slot_lem : (x : Text) → T (is_live_slot x) → x ≡ 1 ∷ drop 1 x
unfolding is_live_slot
live_slot_lem [] l = absurd l
live_slot_lem (b ∷ x) l = ap (λ (c : ℕ). c ∷ x) (eqb→eq b 1 l)

module _ (s : Text) (ok : T (ledger_ok s)) where
  -- where a live event stands
  live_from : (e : Event) → In e (live_in s) → (x : Text) × In x (slots s) × T (is_live_slot x) × (e ≡ drop 1 x)
  unfolding live_in
  live_from e m =
      let r = in_map (drop 1) e (those is_live_slot (slots s)) m in
      let q = in_those is_live_slot r.0 (slots s) r.1 in
      (r.0, q.0, q.1, r.2)

  pub slot_long : (x : Text) → In x (slots s) → length x ≡ 38
  unfolding slots slots_in
  slot_long x m = chop_long (length s / 38) s x (omega (arith, div-add-mod' (length s) 38)) m

  pub live_long : AllLong (live_in s)
  live_long e m = let r = live_from e m in ap length r.3 ∙ length-drop 1 r.0 ∙ omega (arith, slot_long r.0 r.1)

  pub live_formed : (e : Event) → In e (live_in s) → T (event_form e)
  unfolding slot_form
  live_formed e m =
      let r = live_from e m in
      let f = all_in_lem slot_form r.0 (slots s) (well_formed_lem s ok).forms r.1 in
      subst (λ (x : Event). T (event_form x)) (sym r.3) (go r.0 (is_live_slot r.0) refl r.2 f)
    where
      go : (x : Text) (b : Bool) → is_live_slot x ≡ b → T (is_live_slot x) → T (cond (is_live_slot x) (event_form (drop 1 x)) (is_free_slot x)) → T (event_form (drop 1 x))
      go x true e t f = subst (λ (b : Bool). T (cond b (event_form (drop 1 x)) (is_free_slot x))) e f
      go x false e t f = absurd (subst T e t)

-- a live slot stands above every slot before it, and those are live
above : (x z : Text) (ys : List Text) → T (chained slot_follows x ys) → In z ys → T (is_live_slot z) → T (is_live_slot x) × T (below x z)
unfolding slot_follows
above x z [] c m l = absurd m
above x z (y ∷ ys) c m l = go (λ (k : In z ys). above y z ys (both (slot_follows x y) (chained slot_follows y ys) c).1 k l) m
  where
    next : T (is_live_slot y) → T (is_live_slot x) × T (below x y)
    next k = step (is_live_slot y) refl k (both (slot_follows x y) (chained slot_follows y ys) c).0
      where
        step : (b : Bool) → is_live_slot y ≡ b → T (is_live_slot y) → T (cond (is_live_slot y) (is_live_slot x && below x y) true) → T (is_live_slot x) × T (below x y)
        step true e k f = both (is_live_slot x) (below x y) (subst (λ (b : Bool). T (cond b (is_live_slot x && below x y) true)) e f)
        step false e k f = absurd (subst T e k)

    go : (In z ys → T (is_live_slot y) × T (below y z)) → (z ≡ y) ⊎ In z ys → T (is_live_slot x) × T (below x z)
    go rec (inl e) = subst (λ (w : Text). T (is_live_slot x) × T (below x w)) (sym e) (next (subst (λ (w : Text). T (is_live_slot w)) e l))
    go rec (inr k) = let r = rec k in let q = next r.0 in (q.0, below_trans x y z q.1 r.1)

live_below : (d e : Event) → T (below (1 ∷ d) (1 ∷ e)) → T (below d e)
unfolding below order_of
live_below d e t = t

pub tail_follows : (t : Text) (us : List Text) → T (chained slot_follows t us) → T (adjacent slot_follows us)
tail_follows t [] c = tt
tail_follows t (u ∷ us) c = (both (slot_follows t u) (chained slot_follows u us) c).1

up_slots : (ys : List Text) → T (adjacent slot_follows ys) → Up (map (drop 1) (those is_live_slot ys))
up_slots [] a = tt
up_slots (y ∷ ys) a = go (is_live_slot y) refl (up_slots ys (tail_follows y ys a))
  where
    go : (b : Bool) → is_live_slot y ≡ b → Up (map (drop 1) (those is_live_slot ys)) → Up (map (drop 1) (cond b (y ∷ those is_live_slot ys) (those is_live_slot ys)))
    go false e u = u
    go true e u = (
      (λ d m.
          let r = in_map (drop 1) d (those is_live_slot ys) m in
          let q = in_those is_live_slot r.0 ys r.1 in
          let h = (above y r.0 ys a q.0 q.1).1 in
          let h' : T (below (1 ∷ drop 1 y) (1 ∷ drop 1 r.0)) = subst (λ (t : Text). T (below (1 ∷ drop 1 y) t)) (live_slot_lem r.0 q.1) (subst (λ (t : Text). T (below t r.0)) (live_slot_lem y (of_true (is_live_slot y) e)) h) in
          subst (λ (t : Event). T (below (drop 1 y) t)) (sym r.2) (live_below (drop 1 y) (drop 1 r.0) h')),
      u,
    )

-- the live events ascend
pub live_up : (s : Text) → T (ledger_ok s) → Up (live_in s)
unfolding live_in
live_up s ok = up_slots (slots s) (well_formed_lem s ok).follow
