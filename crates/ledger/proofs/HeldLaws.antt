-- A well-formed ledger is the one that holds its live events, and there is no other of its length that holds them.
-- Assumes nothing.
use Prim.Native.Nat.{ℕ, zero, suc, ◌+◌, ◌-◌, ◌*◌, ◌/◌}
use native.Mathlib.Nat.{div-add-mod'}
use native.Mathlib.Omega.{arith}
use mathlib.Core.Path.{◌≡◌, refl, sym, ap, ap₂, ◌∙◌, subst}
use mathlib.Core.Bool.{Bool, true, false, cond, ◌&&◌}
use mathlib.Core.Logic.{inl, inr}
use mathlib.Core.List.{List, [], ◌∷◌, ◌++◌, map, append_assoc}
use lib.ListN.{length, take, drop, length-drop, replicate-append-replicate, take-append-drop}
use lib.Dec.{T, eqb, eqb→eq}
use Rattle.house.specs.Text.{Text, below, all, those, joined, chained, adjacent}
use Rattle.house.specs.Members.{In}
use Rattle.house.proofs.Facts.{both, of_true}
use Rattle.house.proofs.Members.{one_rising}
use Rattle.house.proofs.Decisions.{below_asym}
use Rattle.ledger.specs.Ledger.{Event, slots_in, chop, slots, event_form, is_live_slot, is_free_slot, slot_form, slot_follows, ledger_ok, live_in, live_slot, ledger_with}
use Rattle.ledger.proofs.SlotLaws.{length_chop}
use Rattle.ledger.proofs.EventLaws.{Below}
use Rattle.ledger.proofs.WellFormedLaws.{well_formed_lem, live_slot_lem, slot_long, tail_follows, live_up}
use Rattle.ledger.proofs.LedgerWithLaws.{zeros}

abbrev flat : List Text → Text
flat ts = joined (λ (t : Text). t) ts

flat_chop : (n : ℕ) (s : Text) → length s ≡ n * 38 → flat (chop n s) ≡ s
unfolding chop
flat_chop zero [] h = refl
flat_chop zero (b ∷ s) h = absurd (omega arith)
flat_chop (suc n) s h =
    ap (λ (t : Text). take 38 s ++ t) (flat_chop n (drop 38 s) (let k = length-drop 38 s in omega arith)) ∙ take-append-drop 38 s

zero_bytes : (t : Text) → T (is_free_slot t) → t ≡ zeros (length t)
unfolding is_free_slot
zero_bytes [] h = refl
zero_bytes (b ∷ t) h =
    let p = both (eqb b 0) (all (λ (c : ℕ). eqb c 0) t) h in
    ap₂ (λ (c : ℕ) (u : Text). c ∷ u) (eqb→eq b 0 p.0) (zero_bytes t p.1)

free_slot_lem : (t : Text) → T (slot_form t) → is_live_slot t ≡ false → t ≡ zeros (length t)
unfolding slot_form
free_slot_lem t f e = zero_bytes t (subst (λ (b : Bool). T (cond b (event_form (drop 1 t)) (is_free_slot t))) e f)

-- after a free slot all are free
dead_next : (t u : Text) → T (slot_follows t u) → is_live_slot t ≡ false → is_live_slot u ≡ false
unfolding slot_follows
dead_next t u f e = go (is_live_slot u) f
  where
    go : (b : Bool) → T (cond b (is_live_slot t && below t u) true) → b ≡ false
    go true h = absurd (subst T e (both (is_live_slot t) (below t u) h).0)
    go false h = refl

abbrev AllSlots : List Text → Type 0
AllSlots ts = (t : Text) → In t ts → length t ≡ 38

dead_rest : (t : Text) (ts : List Text) → T (all slot_form ts) → T (chained slot_follows t ts) → is_live_slot t ≡ false → AllSlots ts
    → (those is_live_slot ts ≡ []) × (flat ts ≡ zeros (length ts * 38))
dead_rest t [] f c e n = (refl, refl)
dead_rest t (u ∷ ts) f c e n =
    let p = both (slot_form u) (all slot_form ts) f in
    let q = both (slot_follows t u) (chained slot_follows u ts) c in
    let d : is_live_slot u ≡ false = dead_next t u q.0 e in
    let r = dead_rest u ts p.1 q.1 d (λ v m. n v (inr m)) in
    let z : u ≡ zeros 38 = free_slot_lem u p.0 d ∙ ap zeros (n u (inl refl)) in
    let k : 38 + length ts * 38 ≡ suc (length ts) * 38 = omega arith in (
      ap (λ (b : Bool). cond b (u ∷ those is_live_slot ts) (those is_live_slot ts)) d ∙ r.0,
      ap₂ (λ (v w : Text). v ++ w) z r.1 ∙ replicate-append-replicate {A = ℕ} 38 (length ts * 38) 0 ∙ ap zeros k,
    )

abbrev held_by : List Text → List Event
held_by ts = map (drop 1) (those is_live_slot ts)

-- these slots are those of the events that they hold, then m free ones
record Holds (ts : List Text) (es : List Event) : Type 0 where
  free : ℕ
  as_many : length es + free ≡ length ts
  as_laid : flat ts ≡ joined live_slot es ++ zeros (free * 38)

held : (ts : List Text) → T (all slot_form ts) → T (adjacent slot_follows ts) → AllSlots ts → Holds ts (held_by ts)
held [] f a n = record { free = 0; as_many = refl; as_laid = refl }
held (t ∷ ts) f a n = go (held ts (both (slot_form t) (all slot_form ts) f).1 (tail_follows t ts a) (λ u m. n u (inr m))) (is_live_slot t) refl
  where
    parts : T (slot_form t) × T (all slot_form ts)
    parts = both (slot_form t) (all slot_form ts) f

    go : Holds ts (held_by ts) → (b : Bool) → is_live_slot t ≡ b → Holds (t ∷ ts) (map (drop 1) (cond b (t ∷ those is_live_slot ts) (those is_live_slot ts)))
    go r true e =
        record {
          free = r.free;
          as_many = omega (arith, r.as_many);
          as_laid =
              ap₂ (λ (u w : Text). u ++ w) (live_slot_lem t (of_true (is_live_slot t) e)) r.as_laid
              ∙ sym (append_assoc (1 ∷ drop 1 t) (joined live_slot (held_by ts)) (zeros (r.free * 38)));
        }
    go rest false e =
        let r = dead_rest t ts parts.1 a e (λ u m. n u (inr m)) in
        let z : t ≡ zeros 38 = free_slot_lem t parts.0 e ∙ ap zeros (n t (inl refl)) in
        let k : 38 + length ts * 38 ≡ suc (length ts) * 38 = omega arith in
        let none : held_by ts ≡ [] = ap (map (drop 1)) r.0 in
        record {
          free = suc (length ts);
          as_many = ap (λ (es : List Event). length es + suc (length ts)) none ∙ omega arith;
          as_laid =
              ap₂ (λ (v w : Text). v ++ w) z r.1
              ∙ replicate-append-replicate {A = ℕ} 38 (length ts * 38) 0
              ∙ ap zeros k
              ∙ ap (λ (es : List Event). joined live_slot es ++ zeros (suc (length ts) * 38)) (sym none);
        }

-- a well-formed ledger is the one that holds its live events
pub ledger_is : (s : Text) → T (ledger_ok s) → s ≡ ledger_with (length s) (live_in s)
unfolding ledger_with live_in slots slots_in
ledger_is s ok =
    let w = well_formed_lem s ok in
    let h = held (slots s) w.forms w.follow (slot_long s ok) in
    let d = div-add-mod' (length s) 38 in
    let c : length (slots s) ≡ length s / 38 = length_chop (length s / 38) s in
    let k : h.free * 38 ≡ length s - length (held_by (slots s)) * 38 = omega (arith, h.as_many, c, d, w.whole) in
    sym (flat_chop (length s / 38) s (omega (arith, d, w.whole))) ∙ h.as_laid ∙ ap (λ (n : ℕ). joined live_slot (held_by (slots s)) ++ zeros n) k

-- two well-formed ledgers of one length with the same live events are the same, byte for byte
pub one_ledger : (s t : Text) → T (ledger_ok s) → T (ledger_ok t) → length s ≡ length t
    → ((e : Event) → In e (live_in s) → In e (live_in t)) → ((e : Event) → In e (live_in t) → In e (live_in s)) → s ≡ t
one_ledger s t a b n f g =
    ledger_is s a
    ∙ ap₂ (λ (i : ℕ) (es : List Event). ledger_with i es) n (one_rising Below below_asym (live_in s) (live_in t) (live_up s a) (live_up t b) f g)
    ∙ sym (ledger_is t b)
