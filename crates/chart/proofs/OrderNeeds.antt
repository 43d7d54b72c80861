-- What each need of `put_patients` asks.
-- Assumes nothing.
use mathlib.Core.Path.{◌≡◌, refl, sym, ap, ◌∙◌, subst}
use mathlib.Core.Bool.{Bool, true, false, cond}
use mathlib.Core.List.{List, [], ◌∷◌, ◌++◌, append_assoc}
use Prim.Native.Nat.{ℕ, suc, ◌+◌, ◌*◌, ◌≤◌, ◌<◌}
use native.Mathlib.Omega.{arith}
use borrow.Author.Rules.{rules}
use lib.ListN.{length, drop, length-append}
use Rattle.house.specs.Text.{Text, all, front, after_front}
use Rattle.lines.specs.Records.{IH, IN, IA}
use Rattle.chart_definitions.specs.Charts.{Charted, charted_in, well_formed, ordered}
use Rattle.chart_definitions.specs.Lots.{of_immunization, in_writing_order}
use Rattle.chart_definitions.specs.Submissions.{record_text, records_text, file_most}
use Rattle.chart_definitions.proofs.WritingOrderLaws.{order_text}
use Rattle.chart_records.specs.Reading.{record_end}
use Rattle.chart_records.specs.Inside.{charted_at}
use Rattle.chart_records.proofs.ChartLaws.{charted_on, charted_end}
use Rattle.chart.specs.declared.Spot.{Spot}
use Rattle.chart.specs.Inside.{Can, Puts, PutsTo, Going, spot_at, of_kinds, is_sound, lot_places, lots_in, behind_at, rest_at, patient_at, Behind, Patients}
use Rattle.chart.proofs.GoingLaws.{text_append, going_start, going_can, going_on, going_end}
use Rattle.chart.proofs.RunNeeds.{sound_here}
use Rattle.chart.proofs.PlaceLaws.{wf_next}
use Rattle.chart.proofs.PatientLaws.{patient_parts, patient_next, none}
use Rattle.chart.proofs.LotLaws.{lots_are}
use Rattle.chart.proofs.BoundLaws.{places_bound}
use Rattle.chart.proofs.PatientNeeds.{all_after}

-- the records behind a run are no more
after_most : (p : Charted → Bool) (rs : List Charted) → length (after_front p rs) ≤ length rs
after_most p [] = omega arith
after_most p (r ∷ rs) = go (p r) (after_most p rs)
  where
    go : (t : Bool) → length (after_front p rs) ≤ length rs → length (cond t (after_front p rs) (r ∷ rs)) ≤ length (r ∷ rs)
    go true h = omega (arith, h)
    go false h = omega arith

pub record Passing (s : Text) (spot : Spot) (before : Text) (lent : List ℕ) (at number pos : ℕ) (area : Text) (places : List ℕ) : Type 0 where
  pub kept : length places ≡ length lent
  pub going : Going (in_writing_order (charted_in (drop spot.at s))) spot before (in_writing_order (charted_in (drop at s))) number pos area
  pub ready : Patients s at number places

pub patients_start : (s : Text) (spot : Spot) (before : Text) (places : List ℕ) → Patients s spot.at spot.number places
    → Can (in_writing_order (charted_in (drop spot.at s))) spot before → Passing s spot before places spot.at spot.number spot.pos before places
patients_start s spot before places p c =
    record { kept = refl; going = going_start spot before (in_writing_order (charted_in (drop spot.at s))) c; ready = p }

module _ (s : Text) (at number : ℕ) (places : List ℕ) (p : Patients s at number places) (h : at < length s) where
  abbrev end : ℕ
  end = record_end s at

  abbrev rest : List Charted
  rest = charted_in (drop end s)

  here : charted_in (drop at s) ≡ charted_at s at ∷ rest
  here = charted_on s at h

  order_here : ordered IH (charted_at s at ∷ rest) ≡ true
  order_here = sym (ap (ordered IH) here) ∙ p.order

  formed_rest : all well_formed rest ≡ true
  formed_rest = wf_next s at h p.formed

  -- what is written is this patient, and then the others
  patient_here : in_writing_order (charted_in (drop at s)) ≡ patient_at s at ++ in_writing_order (rest_at s end)
  unfolding patient_at behind_at rest_at
  patient_here =
      ap in_writing_order here ∙ patient_parts (charted_at s at) rest order_here
      ∙ ap (λ (l : List Charted). (charted_at s at ∷ []) ++ (l ++ (front (of_kinds IN IA) (after_front of_immunization rest)
      ++ in_writing_order (after_front (of_kinds IN IA) (after_front of_immunization rest))))) (sym (lots_are s end formed_rest))
      ∙ ap (λ (l : List Charted). charted_at s at ∷ l) (sym (append_assoc (lots_in s end) (front (of_kinds IN IA) (after_front of_immunization rest))
      (in_writing_order (after_front (of_kinds IN IA) (after_front of_immunization rest)))))

  lines_here : length (records_text number (patient_at s at)) + length (records_text (number + length (patient_at s at)) (in_writing_order (rest_at s end))) ≤ file_most
  lines_here =
      omega (
        arith,
        p.lines,
        ap (λ (l : List Charted). length (records_text number l)) patient_here,
        ap length (text_append number (patient_at s at) (in_writing_order (rest_at s end))),
        length-append (records_text number (patient_at s at)) (records_text (number + length (patient_at s at)) (in_writing_order (rest_at s end))),
      )

  text_rest : records_text number (charted_at s at ∷ rest) ≡ record_text number (charted_at s at) ++ records_text (suc number) rest
  unfolding records_text
  text_rest = refl

  few : 26 * length (lot_places end rest) ≤ file_most
  few =
      omega (
        arith,
        places_bound s end (suc number) formed_rest,
        p.lines,
        order_text number (charted_in (drop at s)) p.order,
        ap (λ (l : List Charted). length (records_text number l)) here,
        ap length text_rest,
        length-append (record_text number (charted_at s at)) (records_text (suc number) rest),
      )

  pub patients_sound : is_sound s at ≡ true
  patients_sound = sound_here s at h p.formed

  pub patients_behind : Behind s (record_end s at) places
  patients_behind = record { formed = formed_rest; short = p.short; few = omega (arith, few, p.room) }

  -- those behind it
  module _ (to : ℕ) (q : charted_in (drop to s) ≡ rest_at s end) where
    pub patients_fewer : length (charted_in (drop to s)) < length (charted_in (drop at s))
    unfolding rest_at
    patients_fewer =
        omega (arith, ap length q, ap length here, after_most (of_kinds IN IA) (after_front of_immunization rest), after_most of_immunization rest)

    pub patients_next : (more : ℕ) (fresh : List ℕ) → more ≡ number + length (patient_at s at) → length fresh ≡ length places → Patients s to more fresh
    unfolding rest_at
    patients_next more fresh e f =
        record {
          formed =
              ap (all well_formed) q
              ∙ all_after (of_kinds IN IA) (after_front of_immunization rest) (all_after of_immunization rest formed_rest);
          order = ap (ordered IH) q ∙ patient_next (charted_at s at) rest order_here;
          short = p.short;
          lines =
              omega (
                arith,
                lines_here,
                ap (λ (l : List Charted). length (records_text more (in_writing_order l))) q,
                ap (λ (m : ℕ). length (records_text m (in_writing_order (rest_at s end)))) e,
              );
          room = f ∙ p.room;
        }

module _ (s : Text) (spot : Spot) (before : Text) (lent : List ℕ) (at number pos : ℕ) (area : Text) (places : List ℕ) (g : Passing s spot before lent at number pos area places) where
  module _ (h : at < length s) where
    pub passing_sound : is_sound s at ≡ true
    passing_sound = patients_sound s at number places g.ready h

    pub passing_behind : Behind s (record_end s at) places
    passing_behind = patients_behind s at number places g.ready h

    can_one : Can (patient_at s at) (spot_at at number pos) area
    can_one =
        going_can spot before (in_writing_order (charted_in (drop spot.at s))) (in_writing_order (charted_in (drop at s))) number pos area g.going
        (patient_at s at) (in_writing_order (rest_at s (record_end s at))) (patient_here s at number places g.ready h) at

    module _ (r : Spot) (next : Text) (u : PutsTo s (patient_at s at) (rest_at s (record_end s at)) (spot_at at number pos) r area next) where
      pub passing_less : length (charted_in (drop r.at s)) < length (charted_in (drop at s))
      passing_less = patients_fewer s at number places g.ready h r.at u.rest

      pub passing_on : (fresh : List ℕ) → length fresh ≡ length places → Passing s spot before lent r.at r.number r.pos next fresh
      passing_on fresh f =
          record {
            kept = f ∙ g.kept;
            going =
                subst (λ (l : List Charted). Going (in_writing_order (charted_in (drop spot.at s))) spot before (in_writing_order l) r.number r.pos next)
                (sym u.rest)
                (going_on spot before (in_writing_order (charted_in (drop spot.at s))) (in_writing_order (charted_in (drop at s))) number pos area g.going
                (patient_at s at) (in_writing_order (rest_at s (record_end s at))) (patient_here s at number places g.ready h) at r next u.puts);
            ready = patients_next s at number places g.ready h r.at u.rest r.number fresh u.puts.number_is f;
          }

  pub passing_end : length s ≤ at → Puts (in_writing_order (charted_in (drop spot.at s))) spot (spot_at at number pos) before area
  passing_end h =
      going_end spot before (in_writing_order (charted_in (drop spot.at s))) (in_writing_order (charted_in (drop at s))) number pos area g.going
      (ap in_writing_order (charted_end s at h) ∙ none) at

  pub passing_long : length area ≡ length before
  passing_long = g.going.long

  pub passing_kept : length places ≡ length lent
  passing_kept = g.kept

pub passing_can : (s : Text) (spot : Spot) (before : Text) (lent : List ℕ) (r : Spot) (area : Text) (places : List ℕ)
    → Passing s spot before lent r.at r.number r.pos area places → r.at < length s → Can (patient_at s r.at) r area
passing_can s spot before lent r area places g h = can_one s spot before lent r.at r.number r.pos area places g h

pub ruleset for_put_patients = (rules, patients_start, passing_long, passing_kept, passing_less)

pub ruleset for_patients_one = (passing_sound, passing_behind, passing_can)

pub ruleset for_patients_again = (rules, passing_on)
