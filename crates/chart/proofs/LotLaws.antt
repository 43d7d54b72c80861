-- The lots from a position on, by their places and events, are those of the request: lots of one event together, each event where its first lot
-- stands.
-- Assumes nothing.
use mathlib.Core.Path.{◌≡◌, refl, sym, ap, ◌∙◌}
use mathlib.Core.Bool.{Bool, true, false, not, cond, ◌||◌}
use mathlib.Core.List.{List, [], ◌∷◌, map}
use Prim.Native.Nat.{ℕ, zero, suc, ◌+◌, ◌≤◌, ◌<◌}
use native.Mathlib.Omega.{arith}
use borrow.Author.Tests.{eq-eqb, ne_eqb, eqb-true, eqb-false}
use lib.Dec.{eqb}
use lib.ListN.{length, get_or, take, drop}
use lib.Seq.{drop-drop}
use Rattle.house.specs.Text.{Text, all, front, joined, same}
use Rattle.house.proofs.Small.{clash}
use Rattle.blanks.specs.Blanks.{trimmed}
use Rattle.lines.specs.Records.{II, IE}
use Rattle.lines_words.specs.Words.{chart_event}
use Rattle.lines_words.proofs.EventLaws.{chart_event_same, event_key_same}
use Rattle.chart_definitions.specs.Charts.{Charted, record_kind, widths_of, body_width, charted_in, is_of, written_fields, written_field, well_formed}
use Rattle.chart_definitions.specs.Lots.{pieces, together, equal_as_written, same_lots, of_immunization, immunizations}
use Rattle.chart_records.specs.Reading.{record_end}
use Rattle.chart_records.specs.Inside.{charted_at}
use Rattle.chart_records.proofs.ChartLaws.{charted_end, charted_on}
use Rattle.chart.specs.Inside.{of_kinds, shot_at, lot_places, event_at, like, lots_of, lots_in}
use Rattle.chart.proofs.FirstLaws.{together_map, joined_map, ordered_together}
use Rattle.chart.proofs.PlaceLaws.{chart_by, places_ii, places_ie, places_other, places_end, places_ascend, places_kind}

-- IMMUNIZATIONS

-- up to the next II there are IE alone
shot_front : (rs : List Charted) → front (λ (r : Charted). not (is_of II r)) (front of_immunization rs) ≡ front (of_kinds IE IE) rs
unfolding of_immunization of_kinds
shot_front [] = refl
shot_front (r ∷ rs) = go (eqb r.kind II) (eqb r.kind IE) refl refl (shot_front rs)
  where
    go : (i j : Bool) → eqb r.kind II ≡ i → eqb r.kind IE ≡ j
        → front (λ (q : Charted). not (is_of II q)) (front of_immunization rs) ≡ front (of_kinds IE IE) rs
        → front (λ (q : Charted). not (is_of II q)) (cond (i || j) (r ∷ front of_immunization rs) []) ≡ cond (j || j) (r ∷ front (of_kinds IE IE) rs) []
    go true true a b h = let k : r.kind ≡ II = eqb-true _ _ a in clash (cc (k, eqb-true r.kind IE b))
    go true false a b h = rw a
    go false true a b h = rw a (ap (λ (l : List Charted). r ∷ l) h)
    go false false a b h = refl

module _ (r : Charted) (rs : List Charted) where
  shots_ii : r.kind ≡ II
      → immunizations (front of_immunization (r ∷ rs)) ≡ (r ∷ front (of_kinds IE IE) rs) ∷ immunizations (front of_immunization rs)
  unfolding immunizations of_immunization
  shots_ii k =
      ap (λ (b : Bool). pieces (is_of II) (cond (b || is_of IE r) (r ∷ front of_immunization rs) [])) (eq-eqb r.kind II k)
      ∙ ap (λ (b : Bool). cond b ((r ∷ front (λ (q : Charted). not (is_of II q)) (front of_immunization rs)) ∷ pieces (is_of II) (front of_immunization rs))
      (pieces (is_of II) (front of_immunization rs))) (eq-eqb r.kind II k)
      ∙ ap (λ (l : List Charted). (r ∷ l) ∷ pieces (is_of II) (front of_immunization rs)) (shot_front rs)

  shots_ie : r.kind ≡ IE → immunizations (front of_immunization (r ∷ rs)) ≡ immunizations (front of_immunization rs)
  unfolding immunizations of_immunization
  shots_ie k = rw k

  shots_other : (r.kind ≡ II → ⊥) → (r.kind ≡ IE → ⊥) → immunizations (front of_immunization (r ∷ rs)) ≡ []
  unfolding immunizations of_immunization
  shots_other i e = rw (ne_eqb _ _ i, ne_eqb _ _ e)

shots_none : immunizations (front of_immunization []) ≡ []
unfolding immunizations
shots_none = refl

-- they are those at the places
module _ (s : Text) where
  shots_at : ℕ → Type 0
  shots_at at = immunizations (front of_immunization (charted_in (drop at s))) ≡ map (shot_at s) (lot_places at (charted_in (drop at s)))

  shots_last : (at : ℕ) → length s ≤ at → shots_at at
  unfolding shots_at
  shots_last at h =
      ap (λ (l : List Charted). immunizations (front of_immunization l)) (charted_end s at h) ∙ shots_none
      ∙ sym (ap (map (shot_at s)) (places_end s at h))

  shots_on : (at : ℕ) → at < length s → all well_formed (charted_in (drop at s)) ≡ true → shots_at (record_end s at) → shots_at at
  unfolding shots_at shot_at charted_at
  shots_on at h wf t =
      ap (λ (l : List Charted). immunizations (front of_immunization l)) (charted_on s at h)
      ∙ go (eqb (record_kind (get_or s at 0)) 4) (eqb (record_kind (get_or s at 0)) 5) refl refl
    where
      go : (u v : Bool) → eqb (record_kind (get_or s at 0)) 4 ≡ u → eqb (record_kind (get_or s at 0)) 5 ≡ v
          → immunizations (front of_immunization (charted_at s at ∷ charted_in (drop (record_end s at) s)))
          ≡ map (shot_at s) (lot_places at (charted_in (drop at s)))
      go true v a b =
          shots_ii (charted_at s at) (charted_in (drop (record_end s at) s)) (eqb-true _ _ a)
          ∙ ap (λ (l : List (List Charted)). shot_at s at ∷ l) t ∙ sym (ap (map (shot_at s)) (places_ii s at h wf (eqb-true _ _ a)))
      go false true a b =
          shots_ie (charted_at s at) (charted_in (drop (record_end s at) s)) (eqb-true _ _ b)
          ∙ t ∙ sym (ap (map (shot_at s)) (places_ie s at h wf (eqb-true _ _ b)))
      go false false a b =
          shots_other (charted_at s at) (charted_in (drop (record_end s at) s)) (eqb-false _ _ a) (eqb-false _ _ b)
          ∙ sym (ap (map (shot_at s)) (places_other s at h wf (eqb-false _ _ a) (eqb-false _ _ b)))

  pub shots_are : (at : ℕ) → all well_formed (charted_in (drop at s)) ≡ true
      → immunizations (front of_immunization (charted_in (drop at s))) ≡ map (shot_at s) (lot_places at (charted_in (drop at s)))
  unfolding shots_at
  shots_are at wf = chart_by s shots_at shots_last shots_on at wf

-- EVENTS

take-take : (a n : ℕ) (t : Text) → a ≤ n → take a (take n t) ≡ take a t
take-take zero n t h = refl
take-take (suc a) zero t h = absurd (omega arith)
take-take (suc a) (suc n) [] h = refl
take-take (suc a) (suc n) (b ∷ t) h = ap (λ (l : Text). b ∷ l) (take-take a n t (omega (arith, h)))

part_of_lem : (a b n : ℕ) (t : Text) → b + a ≤ n → take a (drop b (take n t)) ≡ take a (drop b t)
part_of_lem a zero n t h = take-take a n t (omega (arith, h))
part_of_lem a (suc b) zero t h = absurd (omega arith)
part_of_lem a (suc b) (suc n) [] h = refl
part_of_lem a (suc b) (suc n) (c ∷ t) h = part_of_lem a b n t (omega (arith, h))

abbrev ii : Text → Charted
ii t = record { kind = II; body = take 1699 t }

module _ (t : Text) where
  uli_is : written_field (ii t) 3 ≡ trimmed (take 9 t)
  unfolding written_field written_fields widths_of
  uli_is = ap trimmed (part_of_lem 9 0 1699 t (omega arith))

  type_is : written_field (ii t) 4 ≡ trimmed (take 1 (drop 9 t))
  unfolding written_field written_fields widths_of
  type_is = ap trimmed (part_of_lem 1 9 1699 t (omega arith))

  date_is : written_field (ii t) 6 ≡ trimmed (take 8 (drop 11 t))
  unfolding written_field written_fields widths_of
  date_is =
      ap (λ (l : Text). trimmed (take 8 l)) (drop-drop 1 1 (drop 9 (take 1699 t)) ∙ drop-drop 2 9 (take 1699 t))
      ∙ ap trimmed (part_of_lem 8 11 1699 t (omega arith))

  vaccine_is : written_field (ii t) 8 ≡ trimmed (take 15 (drop 20 t))
  unfolding written_field written_fields widths_of
  vaccine_is =
      ap (λ (l : Text). trimmed (take 15 l)) (drop-drop 1 8 (drop 1 (drop 1 (drop 9 (take 1699 t)))) ∙ drop-drop 9 1 (drop 1 (drop 9 (take 1699 t)))
      ∙ drop-drop 10 1 (drop 9 (take 1699 t)) ∙ drop-drop 11 9 (take 1699 t))
      ∙ ap trimmed (part_of_lem 15 20 1699 t (omega arith))

module _ (s : Text) (p : ℕ) (k : record_kind (get_or s p 0) ≡ 4) where
  ii_at : charted_at s p ≡ ii (drop (p + 1) s)
  unfolding charted_at body_width widths_of
  ii_at = ap (λ (n : ℕ). record { kind = n; body = take (body_width n) (drop (p + 1) s) }) k

  on : (n m : ℕ) → p + 1 + n ≡ m → drop n (drop (p + 1) s) ≡ drop m s
  on n m e = drop-drop n (p + 1) s ∙ ap (λ (i : ℕ). drop i s) e

  uli_at : written_field (charted_at s p) 3 ≡ trimmed (take 9 (drop (p + 1) s))
  uli_at = ap (λ (r : Charted). written_field r 3) ii_at ∙ uli_is (drop (p + 1) s)

  type_at : written_field (charted_at s p) 4 ≡ trimmed (take 1 (drop (p + 10) s))
  type_at =
      ap (λ (r : Charted). written_field r 4) ii_at ∙ type_is (drop (p + 1) s) ∙ ap (λ (t : Text). trimmed (take 1 t)) (on 9 (p + 10) (omega arith))

  date_at : written_field (charted_at s p) 6 ≡ trimmed (take 8 (drop (p + 12) s))
  date_at =
      ap (λ (r : Charted). written_field r 6) ii_at ∙ date_is (drop (p + 1) s) ∙ ap (λ (t : Text). trimmed (take 8 t)) (on 11 (p + 12) (omega arith))

  vaccine_at : written_field (charted_at s p) 8 ≡ trimmed (take 15 (drop (p + 21) s))
  vaccine_at =
      ap (λ (r : Charted). written_field r 8) ii_at ∙ vaccine_is (drop (p + 1) s) ∙ ap (λ (t : Text). trimmed (take 15 t)) (on 20 (p + 21) (omega arith))

module _ (s : Text) (p q : ℕ) (k : record_kind (get_or s p 0) ≡ 4) (l : record_kind (get_or s q 0) ≡ 4) where
  event_of_lem : equal_as_written (charted_at s p) (charted_at s q) ≡ same (chart_event s p) (chart_event s q)
  unfolding equal_as_written
  event_of_lem =
      rw (uli_at s p k, uli_at s q l, type_at s p k, type_at s q l, date_at s p k, date_at s q l, vaccine_at s p k, vaccine_at s q l)
      (sym (chart_event_same s p q))

  -- two lots are of one event if their places are
  pub like_is : same_lots (shot_at s p) (shot_at s q) ≡ like (event_at s) p q
  unfolding shot_at event_at
  like_is =
      event_of_lem ∙ sym (event_key_same s p q)

-- THE LOTS FROM A POSITION ON

pub lots_are : (s : Text) (at : ℕ) → all well_formed (charted_in (drop at s)) ≡ true
    → lots_in s at ≡ joined (λ (x : List Charted). x) (together same_lots (immunizations (front of_immunization (charted_in (drop at s)))))
unfolding lots_in lots_of
lots_are s at wf =
    ap (joined (shot_at s)) (ordered_together (event_at s) (lot_places at (charted_in (drop at s))) (places_ascend s at wf))
    ∙ sym (joined_map (shot_at s) (together (like (event_at s)) (lot_places at (charted_in (drop at s)))))
    ∙ ap (joined (λ (x : List Charted). x)) (sym (together_map (shot_at s) same_lots (like (event_at s)) (λ (p : ℕ). eqb (record_kind (get_or s p 0)) 4)
    (λ p q a b. like_is s p q (eqb-true _ _ a) (eqb-true _ _ b)) (lot_places at (charted_in (drop at s))) (places_kind s at wf)))
    ∙ ap (λ (l : List (List Charted)). joined (λ (x : List Charted). x) (together same_lots l)) (sym (shots_are s at wf))
