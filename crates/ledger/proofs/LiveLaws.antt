-- The live slots of a ledger in order: they stand first and ascend, and each is its event after kind 1. What the order of events says of their slots.
-- Assumes nothing.
use mathlib.Core.Path.{◌≡◌, refl, sym, ap, ap₂, ◌∙◌, subst}
use mathlib.Core.Bool.{Bool, true, false, not, cond, ◌&&◌, ◌||◌}
use mathlib.Core.List.{List, [], ◌∷◌, ◌++◌, map}
use lib.Dec.{T}
use lib.ListN.{length, take, drop}
use Rattle.house.specs.Text.{Text, those, adjacent, chained, joined, is_less, is_same, below, same}
use Rattle.house.proofs.Small.{clash, both}
use Rattle.house.proofs.Facts.{of_true}
use Rattle.house.proofs.OrderAlgebra.{cons_eq}
use Rattle.lines_places.specs.Events.{ascends}
use Rattle.lines_places.specs.Sorted.{put_in, place}
use Rattle.lines_places.specs.Inside.{Lt, Over, Asc}
use Rattle.lines_places.proofs.Order.{over_down}
use Rattle.lines_places.proofs.SortedLaws.{ascends_asc}
use Rattle.ledger.specs.Ledger.{is_live_slot, slot_follows, is_among, put_in_order, plus, less, live_slot}
use Rattle.ledger.specs.Updates.{whole}
use Rattle.ledger.proofs.WellFormedLaws.{live_slot_lem}

-- events that ascend
map_whole : (es : List Text) → map whole es ≡ es
map_whole [] = refl
map_whole (e ∷ es) = ap (λ (l : List Text). e ∷ l) (map_whole es)

pub events_asc : (es : List Text) → ascends es ≡ true → Asc whole es
events_asc es h = ascends_asc whole es (ap ascends (map_whole es) ∙ h)

-- slots in order
free_rest : (x : Text) (ts : List Text) → is_live_slot x ≡ false → chained slot_follows x ts ≡ true → those is_live_slot ts ≡ []
unfolding slot_follows
free_rest x [] f h = refl
free_rest x (t ∷ ts) f h = go (is_live_slot t) refl h (free_rest t ts)
  where
    go : (b : Bool) → is_live_slot t ≡ b → (cond b (is_live_slot x && below x t) true && chained slot_follows t ts) ≡ true
        → (is_live_slot t ≡ false → chained slot_follows t ts ≡ true → those is_live_slot ts ≡ []) → cond b (t ∷ those is_live_slot ts) (those is_live_slot ts) ≡ []
    go true e k rec = clash (cc (ap (λ (b : Bool). b && below x t && chained slot_follows t ts) f))
    go false e k rec = rec e k

live_rest : (x : Text) (ts : List Text) → chained slot_follows x ts ≡ true → (take (length (those is_live_slot ts)) ts ≡ those is_live_slot ts) × Asc whole (x ∷ those is_live_slot ts)
unfolding slot_follows
live_rest x [] h = (refl, (tt, tt))
live_rest x (t ∷ ts) h = go (is_live_slot t) refl h (live_rest t ts)
  where
    go : (b : Bool) → is_live_slot t ≡ b → (cond b (is_live_slot x && below x t) true && chained slot_follows t ts) ≡ true
        → (chained slot_follows t ts ≡ true → (take (length (those is_live_slot ts)) ts ≡ those is_live_slot ts) × Asc whole (t ∷ those is_live_slot ts))
        → (take (length (cond b (t ∷ those is_live_slot ts) (those is_live_slot ts))) (t ∷ ts) ≡ cond b (t ∷ those is_live_slot ts) (those is_live_slot ts)) × Asc whole (x ∷ cond b (t ∷ those is_live_slot ts) (those is_live_slot ts))
    go true e k rec =
        let p = both (is_live_slot x && below x t) (chained slot_follows t ts) k in
        let l : Lt x t = of_true (below x t) (both (is_live_slot x) (below x t) p.0).1 in
        let r = rec p.1 in
        (ap (λ (l : List Text). t ∷ l) r.0, ((l, over_down whole x t (those is_live_slot ts) l r.1.0), r.1))
    go false e k rec = rw (free_rest t ts e k) (refl, (tt, tt))

pub in_order_lem : (ts : List Text) → adjacent slot_follows ts ≡ true → (take (length (those is_live_slot ts)) ts ≡ those is_live_slot ts) × Asc whole (those is_live_slot ts)
in_order_lem [] h = (refl, tt)
in_order_lem (x ∷ xs) h = go (is_live_slot x) refl
  where
    go : (b : Bool) → is_live_slot x ≡ b
        → (take (length (cond b (x ∷ those is_live_slot xs) (those is_live_slot xs))) (x ∷ xs) ≡ cond b (x ∷ those is_live_slot xs) (those is_live_slot xs)) × Asc whole (cond b (x ∷ those is_live_slot xs) (those is_live_slot xs))
    go true e = let r = live_rest x xs h in (ap (λ (l : List Text). x ∷ l) r.0, r.1)
    go false e = rw (free_rest x xs e h) (refl, tt)

-- a live slot is its event after kind 1
pub live_slots : (ts : List Text) → map live_slot (map (drop 1) (those is_live_slot ts)) ≡ those is_live_slot ts
live_slots [] = refl
live_slots (t ∷ ts) = go (is_live_slot t) refl (live_slots ts)
  where
    go : (b : Bool) → is_live_slot t ≡ b → map live_slot (map (drop 1) (those is_live_slot ts)) ≡ those is_live_slot ts
        → map live_slot (map (drop 1) (cond b (t ∷ those is_live_slot ts) (those is_live_slot ts))) ≡ cond b (t ∷ those is_live_slot ts) (those is_live_slot ts)
    go true e r = ap₂ ◌∷◌ (sym (live_slot_lem t (of_true (is_live_slot t) e))) r
    go false e r = r

-- slots stand to one another as their events
below_live : (x y : Text) → below (live_slot x) (live_slot y) ≡ below x y
unfolding below
below_live x y = ap is_less (cons_eq 1 1 x y refl)

same_live : (x y : Text) → same (live_slot x) (live_slot y) ≡ same x y
unfolding same
same_live x y = ap is_same (cons_eq 1 1 x y refl)

over_live : (x : Text) (es : List Text) → Over whole x es → Over whole (live_slot x) (map live_slot es)
over_live x [] o = tt
over_live x (e ∷ es) o = (subst T (sym (below_live x e)) o.0, over_live x es o.1)

pub asc_live : (es : List Text) → Asc whole es → Asc whole (map live_slot es)
asc_live [] a = tt
asc_live (e ∷ es) a = (over_live e es a.0, asc_live es a.1)

live_over : (x : Text) (es : List Text) → Over whole (live_slot x) (map live_slot es) → Over whole x es
live_over x [] o = tt
live_over x (e ∷ es) o = (subst T (below_live x e) o.0, live_over x es o.1)

pub live_asc : (es : List Text) → Asc whole (map live_slot es) → Asc whole es
live_asc [] a = tt
live_asc (e ∷ es) a = (live_over e es a.0, live_asc es a.1)

among_live : (ds : List Text) (x : Text) → is_among (map live_slot ds) (live_slot x) ≡ is_among ds x
unfolding is_among
among_live [] x = refl
among_live (d ∷ ds) x = ap₂ ◌||◌ (same_live x d) (among_live ds x)

pub less_live : (ds es : List Text) → less (map live_slot ds) (map live_slot es) ≡ map live_slot (less ds es)
unfolding less
less_live ds [] = refl
less_live ds (e ∷ es) = rw (among_live ds e) (go (not (is_among ds e)) (less_live ds es))
  where
    go : (b : Bool) → less (map live_slot ds) (map live_slot es) ≡ map live_slot (less ds es)
        → cond b (live_slot e ∷ less (map live_slot ds) (map live_slot es)) (less (map live_slot ds) (map live_slot es)) ≡ map live_slot (cond b (e ∷ less ds es) (less ds es))
    go true r = ap (λ (l : List Text). live_slot e ∷ l) r
    go false r = r

put_live : (x : Text) (es : List Text) → put_in whole (live_slot x) (map live_slot es) ≡ map live_slot (put_in_order x es)
unfolding put_in put_in_order
put_live x [] = refl
put_live x (e ∷ es) = rw (below_live e x) (go (below e x) (put_live x es))
  where
    go : (b : Bool) → put_in whole (live_slot x) (map live_slot es) ≡ map live_slot (put_in_order x es)
        → cond b (live_slot e ∷ put_in whole (live_slot x) (map live_slot es)) (live_slot x ∷ (live_slot e ∷ map live_slot es)) ≡ map live_slot (cond b (e ∷ put_in_order x es) (x ∷ (e ∷ es)))
    go true r = ap (λ (l : List Text). live_slot e ∷ l) r
    go false r = refl

pub place_live : (gs es : List Text) → place whole (map live_slot gs) (map live_slot es) ≡ map live_slot (plus gs es)
unfolding place plus
place_live [] es = refl
place_live (g ∷ gs) es = ap (put_in whole (live_slot g)) (place_live gs es) ∙ put_live g (plus gs es)

-- insertion as the sort places
insert_put : (x : Text) (es : List Text) → put_in_order x es ≡ put_in whole x es
unfolding put_in_order put_in
insert_put x [] = refl
insert_put x (e ∷ es) = rw (insert_put x es)

pub plus_place : (gs es : List Text) → plus gs es ≡ place whole gs es
unfolding plus place
plus_place [] es = refl
plus_place (g ∷ gs) es = insert_put g (plus gs es) ∙ ap (put_in whole g) (plus_place gs es)

pub joined_live : (es : List Text) → joined live_slot es ≡ joined whole (map live_slot es)
joined_live [] = refl
joined_live (e ∷ es) = ap (λ (l : Text). live_slot e ++ l) (joined_live es)
