-- Events: two records of one event, two lots of one event.
-- Assumes nothing.
use mathlib.Core.Path.{◌≡◌, refl, ◌∙◌}
use mathlib.Core.Bool.{Bool, true, false, not, cond, ◌&&◌}
use mathlib.Core.List.{List, [], ◌∷◌}
use Rattle.house.specs.Text.{all, front, is_empty, same}
use Rattle.house.proofs.Small.{both, clash}
use Rattle.house.proofs.Decisions.{same_true, is_same_lem, same_sym}
use Rattle.chart_definitions.specs.Charts.{Charted, written_field}
use Rattle.chart_definitions.specs.Lots.{pieces, equal_as_written, same_lots}

-- the four fields, equal
pub record OneEvent (r q : Charted) : Type 0 where
  pub uli : written_field r 3 ≡ written_field q 3
  pub type : written_field r 4 ≡ written_field q 4
  pub date : written_field r 6 ≡ written_field q 6
  pub vaccine : written_field r 8 ≡ written_field q 8

pub event_fields : (r q : Charted) → equal_as_written r q ≡ true → OneEvent r q
unfolding equal_as_written
event_fields r q e =
    let a = both (same (written_field r 3) (written_field q 3)) (same (written_field r 4) (written_field q 4) && (same (written_field r 6) (written_field q 6) && same (written_field r 8) (written_field q 8))) e in
    let b = both (same (written_field r 4) (written_field q 4)) (same (written_field r 6) (written_field q 6) && same (written_field r 8) (written_field q 8)) a.1 in
    let c = both (same (written_field r 6) (written_field q 6)) (same (written_field r 8) (written_field q 8)) b.1 in
    record {
      uli = same_true (written_field r 3) (written_field q 3) a.0;
      type = same_true (written_field r 4) (written_field q 4) b.0;
      date = same_true (written_field r 6) (written_field q 6) c.0;
      vaccine = same_true (written_field r 8) (written_field q 8) c.1;
    }

pub fields_event : (r q : Charted) → OneEvent r q → equal_as_written r q ≡ true
unfolding equal_as_written
fields_event r q e =
    rw (is_same_lem (written_field r 3) (written_field q 3) e.uli, is_same_lem (written_field r 4) (written_field q 4) e.type, is_same_lem (written_field r 6) (written_field q 6) e.date, is_same_lem (written_field r 8) (written_field q 8) e.vaccine)

pub event_refl : (r : Charted) → equal_as_written r r ≡ true
event_refl r = fields_event r r (record { uli = refl; type = refl; date = refl; vaccine = refl })

pub event_sym : (r q : Charted) → equal_as_written r q ≡ equal_as_written q r
unfolding equal_as_written
event_sym r q =
    rw (same_sym (written_field r 3) (written_field q 3), same_sym (written_field r 4) (written_field q 4), same_sym (written_field r 6) (written_field q 6), same_sym (written_field r 8) (written_field q 8))

pub event_trans : (r q t : Charted) → equal_as_written r q ≡ true → equal_as_written q t ≡ true → equal_as_written r t ≡ true
event_trans r q t a b =
    let x = event_fields r q a in
    let y = event_fields q t b in
    fields_event r t (record { uli = x.uli ∙ y.uli; type = x.type ∙ y.type; date = x.date ∙ y.date; vaccine = x.vaccine ∙ y.vaccine })

-- LOTS: their first records say it

pub lots_sym : (x y : List Charted) → same_lots x y ≡ same_lots y x
lots_sym [] [] = refl
lots_sym [] (q ∷ qs) = refl
lots_sym (r ∷ rs) [] = refl
lots_sym (r ∷ rs) (q ∷ qs) = event_sym r q

pub lots_trans : (x y z : List Charted) → same_lots x y ≡ true → same_lots y z ≡ true → same_lots x z ≡ true
lots_trans [] y z a b = clash (cc)
lots_trans (r ∷ rs) [] z a b = clash (cc)
lots_trans (r ∷ rs) (q ∷ qs) [] a b = clash (cc)
lots_trans (r ∷ rs) (q ∷ qs) (t ∷ ts) a b = event_trans r q t a b

pub lots_refl : (x : List Charted) → same_lots x x ≡ not (is_empty x)
lots_refl [] = refl
lots_refl (r ∷ rs) = event_refl r

-- a piece has its first record, so it is a lot of its own event
pub pieces_self : (p : Charted → Bool) (rs : List Charted) → all (λ (x : List Charted). same_lots x x) (pieces p rs) ≡ true
pieces_self p [] = refl
pieces_self p (r ∷ rs) = go (p r) (pieces_self p rs)
  where
    go : (b : Bool) → all (λ (x : List Charted). same_lots x x) (pieces p rs) ≡ true
        → all (λ (x : List Charted). same_lots x x) (cond b ((r ∷ front (λ (y : Charted). not (p y)) rs) ∷ pieces p rs) (pieces p rs)) ≡ true
    go true e = rw (event_refl r, e)
    go false e = e
