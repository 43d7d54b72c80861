-- What each need of `put_gathered`, `put_patient` and `put_patients` asks.
-- Assumes nothing.
use mathlib.Core.Path.{◌≡◌, refl, sym, ap, ◌∙◌, subst}
use mathlib.Core.Bool.{Bool, true, false, cond}
use mathlib.Core.List.{List, [], ◌∷◌, ◌++◌, append-nil}
use Prim.Native.Nat.{ℕ, ◌≤◌, ◌<◌}
use native.Mathlib.Omega.{arith}
use borrow.Author.Rules.{rules}
use lib.ListN.{length, take, drop}
use lib.Seq.{length-take-le}
use Rattle.house.specs.Text.{Text, all, front, after_front}
use Rattle.house.specs.Over.{over}
use Rattle.house.proofs.Small.{both}
use Rattle.house.proofs.OverLaws.{over_taken, length_over}
use Rattle.lines.specs.Records.{IN, IA}
use Rattle.chart_definitions.specs.Charts.{Charted, charted_in, well_formed}
use Rattle.chart_definitions.specs.Lots.{of_immunization}
use Rattle.chart_records.specs.Reading.{record_end}
use Rattle.chart_records.specs.Inside.{charted_at}
use Rattle.chart.specs.declared.Spot.{Spot}
use Rattle.chart.specs.Inside.{Can, Puts, PutsTo, Going, of_kinds, lot_places, lots_in, behind_at, rest_at, patient_at, Behind}
use Rattle.chart.proofs.GoingLaws.{going_start, going_can, going_on, going_end}

-- PUT_GATHERED
module _ (s : Text) (at n : ℕ) (before after : List ℕ) (p : after ≡ over (lot_places at (charted_in (drop at s))) before)
    (e : n ≡ length (lot_places at (charted_in (drop at s)))) (h : length (lot_places at (charted_in (drop at s))) ≤ length before) where
  pub gathered_part : n ≤ length after
  gathered_part = omega (arith, ap length p, length_over (lot_places at (charted_in (drop at s))) before, e, h)

  pub gathered_is : take n after ≡ lot_places at (charted_in (drop at s))
  gathered_is = ap (take n) p ∙ over_taken (lot_places at (charted_in (drop at s))) before n (sym e) h

  pub gathered_count : length (take n after) ≡ n
  gathered_count = length-take-le n after gathered_part

pub ruleset for_put_gathered = (rules, gathered_part, gathered_is, gathered_count)

-- PUT_PATIENT

pub all_after : (p : Charted → Bool) (rs : List Charted) → all well_formed rs ≡ true → all well_formed (after_front p rs) ≡ true
all_after p [] h = h
all_after p (r ∷ rs) h = go (p r) (all_after p rs (both (well_formed r) (all well_formed rs) h).1)
  where
    go : (t : Bool) → all well_formed (after_front p rs) ≡ true → all well_formed (cond t (after_front p rs) (r ∷ rs)) ≡ true
    go true e = e
    go false e = h

-- PUT_BEHIND
module _ (s : Text) (at : ℕ) (places : List ℕ) (b : Behind s at places) where
  pub behind_formed : all well_formed (charted_in (drop at s)) ≡ true
  behind_formed = b.formed

  pub behind_short : length s < 4294967296
  behind_short = b.short

  pub behind_few : length (lot_places at (charted_in (drop at s))) ≤ length places
  behind_few = b.few

module _ (s : Text) (spot : Spot) (before : Text) (c : Can (behind_at s spot.at) spot before) where
  abbrev lots : List Charted
  lots = lots_in s spot.at

  abbrev others : List Charted
  others = front (of_kinds IN IA) (after_front of_immunization (charted_in (drop spot.at s)))

  parts : behind_at s spot.at ≡ lots ++ others
  unfolding behind_at
  parts = refl

  start : Going (behind_at s spot.at) spot before (behind_at s spot.at) spot.number spot.pos before
  start = going_start spot before (behind_at s spot.at) c

  pub behind_lots : Can (lots_in s spot.at) spot before
  behind_lots = going_can spot before (behind_at s spot.at) (behind_at s spot.at) spot.number spot.pos before start lots others parts spot.at

  module _ (t : Spot) (late : Text) (u : PutsTo s (lots_in s spot.at) (after_front of_immunization (charted_in (drop spot.at s))) spot t before late) where
    second : Going (behind_at s spot.at) spot before others t.number t.pos late
    second =
        going_on spot before (behind_at s spot.at) (behind_at s spot.at) spot.number spot.pos before start lots others parts spot.at t late u.puts

    others_are : front (of_kinds IN IA) (charted_in (drop t.at s)) ≡ others
    others_are = ap (front (of_kinds IN IA)) u.rest

    pub behind_rest : all well_formed (charted_in (drop spot.at s)) ≡ true → all well_formed (charted_in (drop t.at s)) ≡ true
    behind_rest wf = ap (all well_formed) u.rest ∙ all_after of_immunization (charted_in (drop spot.at s)) wf

    pub behind_others : Can (front (of_kinds IN IA) (charted_in (drop t.at s))) t late
    behind_others =
        subst (λ (l : List Charted). Can l t late) (sym others_are)
        (going_can spot before (behind_at s spot.at) others t.number t.pos late second others [] (sym (append-nil others)) t.at)

    pub behind_puts : (w : Spot) (after : Text)
        → PutsTo s (front (of_kinds IN IA) (charted_in (drop t.at s))) (after_front (of_kinds IN IA) (charted_in (drop t.at s))) t w late after
        → PutsTo s (behind_at s spot.at) (rest_at s spot.at) spot w before after
    unfolding rest_at
    behind_puts w after v =
        record {
          puts =
              going_end spot before (behind_at s spot.at) [] w.number w.pos after
              (going_on spot before (behind_at s spot.at) others t.number t.pos late second others [] (sym (append-nil others)) t.at w after
              (subst (λ (l : List Charted). Puts l t w late after) others_are v.puts))
              refl w.at;
          rest = v.rest ∙ ap (after_front (of_kinds IN IA)) u.rest;
        }

pub ruleset for_put_behind = (rules, behind_puts)

pub ruleset for_behind_lots = (behind_formed, behind_short, behind_few, behind_lots)

pub ruleset for_behind_others = (behind_formed, behind_rest, behind_others)

-- PUT_PATIENT
module _ (s : Text) (spot : Spot) (before : Text) (c : Can (patient_at s spot.at) spot before) where
  abbrev ip : List Charted
  ip = charted_at s spot.at ∷ []

  patient_parts_are : patient_at s spot.at ≡ ip ++ behind_at s (record_end s spot.at)
  unfolding patient_at
  patient_parts_are = refl

  patient_start : Going (patient_at s spot.at) spot before (patient_at s spot.at) spot.number spot.pos before
  patient_start = going_start spot before (patient_at s spot.at) c

  pub patient_can : Can (charted_at s spot.at ∷ []) spot before
  patient_can =
      going_can spot before (patient_at s spot.at) (patient_at s spot.at) spot.number spot.pos before patient_start ip
      (behind_at s (record_end s spot.at)) patient_parts_are spot.at

  module _ (r : Spot) (mid : Text) (p : Puts (charted_at s spot.at ∷ []) spot r before mid) (q : r.at ≡ record_end s spot.at) where
    first : Going (patient_at s spot.at) spot before (behind_at s (record_end s spot.at)) r.number r.pos mid
    first =
        going_on spot before (patient_at s spot.at) (patient_at s spot.at) spot.number spot.pos before patient_start ip
        (behind_at s (record_end s spot.at)) patient_parts_are spot.at r mid p

    first_moved : Going (patient_at s spot.at) spot before (behind_at s r.at) r.number r.pos mid
    first_moved = subst (λ (m : ℕ). Going (patient_at s spot.at) spot before (behind_at s m) r.number r.pos mid) (sym q) first

    pub patient_behind : (places : List ℕ) → Behind s (record_end s spot.at) places → Behind s r.at places
    patient_behind places b = subst (λ (m : ℕ). Behind s m places) (sym q) b

    pub patient_rest : Can (behind_at s r.at) r mid
    patient_rest =
        going_can spot before (patient_at s spot.at) (behind_at s r.at) r.number r.pos mid first_moved (behind_at s r.at) []
        (sym (append-nil (behind_at s r.at))) r.at

    pub patient_puts : (w : Spot) (after : Text) → PutsTo s (behind_at s r.at) (rest_at s r.at) r w mid after
        → PutsTo s (patient_at s spot.at) (rest_at s (record_end s spot.at)) spot w before after
    patient_puts w after v =
        record {
          puts =
              going_end spot before (patient_at s spot.at) [] w.number w.pos after
              (going_on spot before (patient_at s spot.at) (behind_at s r.at) r.number r.pos mid first_moved (behind_at s r.at) []
              (sym (append-nil (behind_at s r.at))) r.at w after v.puts)
              refl w.at;
          rest = v.rest ∙ ap (rest_at s) q;
        }

pub ruleset for_put_patient = (rules, patient_can, patient_behind, patient_rest, patient_puts)
