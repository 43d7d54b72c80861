-- The ledger that holds a list of events: its length, what is live in it, and that it is well formed.
-- Assumes nothing.
use Prim.Native.Nat.{ℕ, zero, suc, ◌+◌, ◌-◌, ◌*◌, ◌/◌, ◌%◌, ◌≤◌}
use native.Mathlib.Nat.{div-add-mod'}
use native.Mathlib.Omega.{arith}
use mathlib.Core.Path.{◌≡◌, refl, sym, ap, ap₂, ◌∙◌}
use mathlib.Core.Bool.{◌&&◌}
use mathlib.Core.Logic.{inl, inr}
use mathlib.Core.List.{List, [], ◌∷◌, ◌++◌, map, append_assoc}
use lib.ListN.{length, drop, replicate, length-append, length-replicate, replicate-append-replicate}
use lib.Seq.{take_at, drop_at}
use lib.Dec.{T, leb, le→leb}
use Rattle.house.specs.Text.{Text, order_of, below, all, those, joined, chained, adjacent}
use Rattle.house.specs.Members.{In}
use Rattle.house.proofs.Facts.{both_of}
use Rattle.ledger.specs.Ledger.{Event, slots_in, chop, slots, event_form, is_live_slot, is_free_slot, slot_form, slot_follows, ledger_ok, live_in, live_slot, ledger_with}
use Rattle.ledger.proofs.EventLaws.{Up}
use Rattle.ledger.proofs.WellFormedLaws.{AllLong}

-- The slots of the ledger that holds these events

joined_length : (es : List Event) → AllLong es → length (joined live_slot es) ≡ length es * 38
joined_length [] h = refl
joined_length (e ∷ es) h = ap suc (length-append e (joined live_slot es)) ∙ omega (arith, h e (inl refl), joined_length es (λ x m. h x (inr m)))

chop_live : (es : List Event) (m : ℕ) (rest : Text) → AllLong es → chop (length es + m) (joined live_slot es ++ rest) ≡ map live_slot es ++ chop m rest
unfolding chop
chop_live [] m rest h = ap (λ (n : ℕ). chop n rest) (let e : 0 + m ≡ m = omega arith in e)
chop_live (e ∷ es) m rest h =
    let n : length (1 ∷ e) ≡ 38 = ap suc (h e (inl refl)) in
    let a : (1 ∷ e ++ joined live_slot es) ++ rest ≡ (1 ∷ e) ++ (joined live_slot es ++ rest) = append_assoc (1 ∷ e) (joined live_slot es) rest in
    let k : suc (length es) + m ≡ suc (length es + m) = omega arith in
    ap₂ (λ (i : ℕ) (t : Text). chop i t) k a
    ∙ ap₂ (λ (t : Text) (u : Text). t ∷ chop (length es + m) u) (take_at (1 ∷ e) (joined live_slot es ++ rest) 38 n) (drop_at (1 ∷ e) (joined live_slot es ++ rest) 38 n)
    ∙ ap (λ (ts : List Text). (1 ∷ e) ∷ ts) (chop_live es m rest (λ x i. h x (inr i)))

abbrev pub zeros : ℕ → Text
zeros n = replicate n 0

free_slot : Text
free_slot = zeros 38

chop_free : (m : ℕ) → chop m (zeros (m * 38)) ≡ replicate m free_slot
unfolding chop free_slot
chop_free zero = refl
chop_free (suc m) =
    let e : suc m * 38 ≡ 38 + m * 38 = omega arith in
    let a : zeros (suc m * 38) ≡ zeros 38 ++ zeros (m * 38) = ap zeros e ∙ sym (replicate-append-replicate {A = ℕ} 38 (m * 38) 0) in
    let n : length (zeros 38) ≡ 38 = length-replicate {A = ℕ} 38 0 in
    ap (chop (suc m)) a
    ∙ ap₂ (λ (t : Text) (u : Text). t ∷ chop m u) (take_at (zeros 38) (zeros (m * 38)) 38 n) (drop_at (zeros 38) (zeros (m * 38)) 38 n)
    ∙ ap (λ (ts : List Text). free_slot ∷ ts) (chop_free m)

module _ (n : ℕ) (es : List Event) (whole : n % 38 ≡ 0) (fits : length es ≤ n / 38) (long : AllLong es) where
  left : ℕ
  left = n / 38 - length es

  bytes_left : n - length es * 38 ≡ left * 38
  unfolding left
  bytes_left = omega (arith, div-add-mod' n 38)

  pub with_length : length (ledger_with n es) ≡ n
  unfolding ledger_with
  with_length =
      length-append (joined live_slot es) (replicate (n - length es * 38) 0)
      ∙ omega (arith, joined_length es long, length-replicate {A = ℕ} (n - length es * 38) 0, div-add-mod' n 38)

  with_slots : slots (ledger_with n es) ≡ map live_slot es ++ replicate left free_slot
  unfolding slots slots_in ledger_with left
  with_slots =
      let k : length (ledger_with n es) / 38 ≡ length es + (n / 38 - length es) = ap (λ (i : ℕ). i / 38) with_length ∙ omega arith in
      ap₂ (λ (i j : ℕ). chop i (joined live_slot es ++ replicate j 0)) k bytes_left
      ∙ chop_live es (n / 38 - length es) (replicate ((n / 38 - length es) * 38) 0) long
      ∙ ap (λ (ts : List Text). map live_slot es ++ ts) (chop_free (n / 38 - length es))

-- What is live there

free_dead : (m : ℕ) → those is_live_slot (replicate m free_slot) ≡ []
unfolding free_slot is_live_slot
free_dead zero = refl
free_dead (suc m) = free_dead m

those_live : (m : ℕ) (es : List Event) → map (drop 1) (those is_live_slot (map live_slot es ++ replicate m free_slot)) ≡ es
unfolding is_live_slot
those_live m [] = ap (map (drop 1)) (free_dead m)
those_live m (e ∷ es) = ap (λ (l : List Event). e ∷ l) (those_live m es)

-- exactly these events are live
pub live_with : (n : ℕ) (es : List Event) → n % 38 ≡ 0 → length es ≤ n / 38 → AllLong es → live_in (ledger_with n es) ≡ es
unfolding live_in
live_with n es whole fits long = ap (λ (ts : List Text). map (drop 1) (those is_live_slot ts)) (with_slots n es whole fits long) ∙ those_live (left n es whole fits long) es

-- It is well formed

free_form : (m : ℕ) → T (all slot_form (replicate m free_slot))
unfolding free_slot slot_form is_live_slot is_free_slot
free_form zero = tt
free_form (suc m) = free_form m

live_forms : (m : ℕ) (es : List Event) → ((e : Event) → In e es → T (event_form e)) → T (all slot_form (map live_slot es ++ replicate m free_slot))
unfolding slot_form is_live_slot
live_forms m [] h = free_form m
live_forms m (e ∷ es) h =
    both_of (event_form e) (all slot_form (map live_slot es ++ replicate m free_slot)) (h e (inl refl)) (live_forms m es (λ x i. h x (inr i)))

free_follows : (m : ℕ) (t : Text) → T (chained slot_follows t (replicate m free_slot))
unfolding slot_follows is_live_slot free_slot
free_follows zero t = tt
free_follows (suc m) t = free_follows m free_slot

below_live : (d e : Event) → T (below d e) → T (below (1 ∷ d) (1 ∷ e))
unfolding below order_of
below_live d e t = t

live_follow : (m : ℕ) (d : Event) (es : List Event) → Up (d ∷ es) → T (chained slot_follows (live_slot d) (map live_slot es ++ replicate m free_slot))
unfolding slot_follows is_live_slot
live_follow m d [] u = free_follows m (live_slot d)
live_follow m d (e ∷ es) u =
    both_of (below (1 ∷ d) (1 ∷ e)) (chained slot_follows (live_slot e) (map live_slot es ++ replicate m free_slot)) (below_live d e (u.0 e (inl refl))) (live_follow m e es u.1)

all_follow : (m : ℕ) (es : List Event) → Up es → T (adjacent slot_follows (map live_slot es ++ replicate m free_slot))
unfolding free_slot
all_follow zero [] u = tt
all_follow (suc m) [] u = free_follows m free_slot
all_follow m (e ∷ es) u = live_follow m e es u

-- a ledger that holds events of their form, in order, is well formed
pub with_ok : (n : ℕ) (es : List Event) → n % 38 ≡ 0 → n / 38 ≤ 100000 → length es ≤ n / 38 → AllLong es
    → ((e : Event) → In e es → T (event_form e)) → Up es → T (ledger_ok (ledger_with n es))
unfolding ledger_ok slots_in
with_ok n es whole most fits long forms up =
    let k = with_length n es whole fits long in
    let s = with_slots n es whole fits long in
    let m = left n es whole fits long in
    rw (k, s, whole)
    (both_of (leb (n / 38) 100000) (all slot_form (map live_slot es ++ replicate m free_slot) && adjacent slot_follows (map live_slot es ++ replicate m free_slot)) (le→leb (n / 38) 100000 most)
    (both_of (all slot_form (map live_slot es ++ replicate m free_slot)) (adjacent slot_follows (map live_slot es ++ replicate m free_slot)) (live_forms m es forms) (all_follow m es up)))
