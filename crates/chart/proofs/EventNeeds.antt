-- What each need of `put_event`, `put_lots` and `put_immunizations` asks.
-- Assumes nothing.
use mathlib.Core.Path.{◌≡◌, refl, sym, ap, ◌∙◌, subst}
use mathlib.Core.Bool.{Bool, true, false, ◌||◌}
use mathlib.Core.List.{List, [], ◌∷◌, ◌++◌}
use Prim.Native.Nat.{ℕ, ◌≤◌, ◌<◌}
use native.Mathlib.Omega.{arith}
use borrow.Author.Rules.{rules}
use borrow.Author.Tests.{ne_eqb}
use lib.Dec.{eqb}
use lib.ListN.{length, get_or, drop}
use Rattle.house.specs.Text.{Text, all, after_front}
use Rattle.lines.specs.Records.{II, IE}
use Rattle.lines_words.specs.Words.{key_at, in_order}
use Rattle.chart_definitions.specs.Charts.{Charted, record_kind, charted_in, well_formed}
use Rattle.chart_definitions.specs.Lots.{of_immunization}
use Rattle.chart_records.specs.Reading.{record_end}
use Rattle.chart_records.specs.Inside.{charted_at}
use Rattle.chart_records.proofs.ChartLaws.{charted_on, charted_end, end_within, end_falls}
use Rattle.chart.specs.declared.Spot.{Spot}
use Rattle.chart.specs.Inside.{Can, Puts, PutsTo, Going, spot_at, is_sound, event_at, leads, run_of, lots_of, lots_in, is_among, Sorted, Ready}
use Rattle.chart.proofs.GoingLaws.{going_start, going_can, going_on, going_end}
use Rattle.chart.proofs.PlaceLaws.{wf_next, places_ii, places_ie, places_other, places_end, places_sorted, among_here, among_rest}
use Rattle.chart.proofs.LotNeeds.{places_from}
use Rattle.chart.proofs.EventLaws.{lots_none, lots_cons, event_first, event_later}

-- PUT_EVENT
module _ (s : Text) (es : List ℕ) (g : Sorted s es) (p i : ℕ) (h : i < length es) (t : get_or es i 0 ≡ p) where
  module _ (r : Bool) (q : r ≡ leads (event_at s) es i) where
    event_run : r ≡ true → lots_of s es (p ∷ []) ≡ run_of s es i (get_or es i 0)
    unfolding run_of
    event_run z = event_first s es g p i h t r q z

    pub event_can : r ≡ true → (spot : Spot) (area : Text) → Can (lots_of s es (p ∷ [])) spot area → Can (run_of s es i (get_or es i 0)) spot area
    event_can z spot area c = subst (λ (l : List Charted). Can l spot area) (event_run z) c

    pub event_puts : r ≡ true → (spot t : Spot) (before after : Text) → Puts (run_of s es i (get_or es i 0)) spot t before after
        → Puts (lots_of s es (p ∷ [])) spot t before after
    event_puts z spot t before after u = subst (λ (l : List Charted). Puts l spot t before after) (sym (event_run z)) u

    pub event_none : r ≡ false → (spot : Spot) (area : Text) → Can (lots_of s es (p ∷ [])) spot area → Puts (lots_of s es (p ∷ [])) spot spot area area
    event_none z spot area c =
        going_end spot area (lots_of s es (p ∷ [])) (lots_of s es (p ∷ [])) spot.number spot.pos area
        (going_start spot area (lots_of s es (p ∷ [])) c) (event_later s es g p i h t r q z) spot.at

pub sorted_sound : (s : Text) (es : List ℕ) → Sorted s es → all (is_sound s) es ≡ true
sorted_sound s es g = g.sound

pub ruleset for_put_event = (rules, event_can, event_puts, event_none, sorted_sound)

-- PUT_LOTS

pub record Lotting (s : Text) (es : List ℕ) (spot : Spot) (before : Text) (at number pos : ℕ) (area : Text) : Type 0 where
  pub going : Going (lots_of s es (places_from s spot.at)) spot before (lots_of s es (places_from s at)) number pos area
  pub ready : Ready s at es
  pub rest : after_front of_immunization (charted_in (drop at s)) ≡ after_front of_immunization (charted_in (drop spot.at s))

pub lots_start : (s : Text) (es : List ℕ) (spot : Spot) (before : Text) → Ready s spot.at es → Can (lots_of s es (places_from s spot.at)) spot before
    → Lotting s es spot before spot.at spot.number spot.pos before
lots_start s es spot before r c = record { going = going_start spot before (lots_of s es (places_from s spot.at)) c; ready = r; rest = refl }

module _ (s : Text) (es : List ℕ) (spot : Spot) (before : Text) (at number pos : ℕ) (area : Text) (g : Lotting s es spot before at number pos area) where
  module _ (h : at < length s) (k : ℕ) (e : k ≡ record_kind (get_or s at 0)) where
    of_kind : (b : Bool) → (eqb k II || eqb k IE) ≡ b → of_immunization (charted_at s at) ≡ b
    unfolding of_immunization charted_at
    of_kind b z = rw (← e) z

    passed : of_immunization (charted_at s at) ≡ true
        → after_front of_immunization (charted_in (drop (record_end s at) s)) ≡ after_front of_immunization (charted_in (drop spot.at s))
    passed z = sym (ap (after_front of_immunization) (charted_on s at h) ∙ skip) ∙ g.rest
      where
        skip : after_front of_immunization (charted_at s at ∷ charted_in (drop (record_end s at) s)) ≡ after_front of_immunization (charted_in (drop (record_end s at) s))
        skip = rw z

    module _ (z : k ≡ II) where
      places_here : places_from s at ≡ at ∷ places_from s (record_end s at)
      places_here = places_ii s at h g.ready.formed (sym e ∙ z)

      all_among : all (is_among es) (at ∷ places_from s (record_end s at)) ≡ true
      all_among = sym (ap (all (is_among es)) places_here) ∙ g.ready.among

      lots_here : lots_of s es (places_from s at) ≡ lots_of s es (at ∷ []) ++ lots_of s es (places_from s (record_end s at))
      lots_here = ap (lots_of s es) places_here ∙ lots_cons s es at (places_from s (record_end s at))

      ready_next : Ready s (record_end s at) es
      ready_next =
          record {
            lots = g.ready.lots;
            formed = wf_next s at h g.ready.formed;
            among = among_rest es at (places_from s (record_end s at)) all_among;
            short = g.ready.short;
          }

      pub lots_among : is_among es at ≡ true
      lots_among = among_here es at (places_from s (record_end s at)) all_among

      pub lots_can : Can (lots_of s es (at ∷ [])) (spot_at at number pos) area
      lots_can =
          going_can spot before (lots_of s es (places_from s spot.at)) (lots_of s es (places_from s at)) number pos area g.going (lots_of s es (at ∷ []))
          (lots_of s es (places_from s (record_end s at))) lots_here at

      pub lots_on : (end : ℕ) (r : Spot) (next : Text) → end ≡ record_end s at → Puts (lots_of s es (at ∷ [])) (spot_at at number pos) r area next
          → Lotting s es spot before end r.number r.pos next
      lots_on end r next q u =
          subst (λ (m : ℕ). Lotting s es spot before m r.number r.pos next) (sym q)
          record {
            going =
                going_on spot before (lots_of s es (places_from s spot.at)) (lots_of s es (places_from s at)) number pos area g.going (lots_of s es (at ∷ []))
                (lots_of s es (places_from s (record_end s at))) lots_here at r next u;
            ready = ready_next;
            rest = passed (of_kind true (rw z));
          }

    pub lots_skip : k ≡ IE → (end : ℕ) → end ≡ record_end s at → Lotting s es spot before end number pos area
    lots_skip z end q =
        let here : places_from s at ≡ places_from s (record_end s at) = places_ie s at h g.ready.formed (sym e ∙ z) in
        subst (λ (m : ℕ). Lotting s es spot before m number pos area) (sym q)
        record {
          going = subst (λ (l : List ℕ). Going (lots_of s es (places_from s spot.at)) spot before (lots_of s es l) number pos area) here g.going;
          ready =
              record {
                lots = g.ready.lots;
                formed = wf_next s at h g.ready.formed;
                among = sym (ap (all (is_among es)) here) ∙ g.ready.among;
                short = g.ready.short;
              };
          rest = passed (of_kind true (rw z));
        }

    pub lots_stop : (k ≡ II → ⊥) → (k ≡ IE → ⊥)
        → PutsTo s (lots_of s es (places_from s spot.at)) (after_front of_immunization (charted_in (drop spot.at s))) spot (spot_at at number pos) before area
    lots_stop a b =
        record {
          puts =
              going_end spot before (lots_of s es (places_from s spot.at)) (lots_of s es (places_from s at)) number pos area g.going
              (ap (lots_of s es) (places_other s at h g.ready.formed (λ z. a (e ∙ z)) (λ z. b (e ∙ z))) ∙ lots_none s es) at;
          rest = charted_on s at h ∙ sym stays ∙ sym (ap (after_front of_immunization) (charted_on s at h)) ∙ g.rest;
        }
      where
        stays : after_front of_immunization (charted_at s at ∷ charted_in (drop (record_end s at) s)) ≡ charted_at s at ∷ charted_in (drop (record_end s at) s)
        stays = rw (of_kind false (rw (ne_eqb k II a, ne_eqb k IE b)))

  pub lots_end : length s ≤ at
      → PutsTo s (lots_of s es (places_from s spot.at)) (after_front of_immunization (charted_in (drop spot.at s))) spot (spot_at at number pos) before area
  lots_end h =
      record {
        puts =
            going_end spot before (lots_of s es (places_from s spot.at)) (lots_of s es (places_from s at)) number pos area g.going
            (ap (lots_of s es) (places_end s at h) ∙ lots_none s es) at;
        rest = charted_end s at h ∙ sym (ap (after_front of_immunization) (charted_end s at h)) ∙ g.rest;
      }

  pub lots_long : length area ≡ length before
  lots_long = g.going.long

  pub lots_sorted : Sorted s es
  lots_sorted = g.ready.lots

  pub lots_small : at < length s → at < 4294967296
  lots_small h = omega (arith, h, g.ready.short)

pub ruleset for_put_lots = (rules, end_within, end_falls, lots_start, lots_among, lots_can, lots_stop, lots_end, lots_long, lots_sorted, lots_small)

pub ruleset for_lots_again = (lots_on, lots_skip)

pub ruleset for_lots_event = (lots_sorted, lots_among, lots_small, lots_can)

-- PUT_IMMUNIZATIONS
module _ (s : Text) (at : ℕ) (es fs : List ℕ) (e : es ≡ places_from s at) (f : fs ≡ in_order (key_at 2 s) es) where
  ordered : fs ≡ in_order (key_at 2 s) (places_from s at)
  ordered = f ∙ ap (in_order (key_at 2 s)) e

  pub all_ready : all well_formed (charted_in (drop at s)) ≡ true → length s < 4294967296 → Ready s at fs
  all_ready wf h = places_sorted s at fs wf h ordered

  lots_are : lots_in s at ≡ lots_of s fs (places_from s at)
  unfolding lots_in event_at
  lots_are = ap (λ (l : List ℕ). lots_of s l (places_from s at)) (sym ordered)

  pub all_can : (spot : Spot) (area : Text) → Can (lots_in s at) spot area → Can (lots_of s fs (places_from s at)) spot area
  all_can spot area c = subst (λ (l : List Charted). Can l spot area) lots_are c

  pub all_puts : (next : List Charted) (spot r : Spot) (before after : Text) → PutsTo s (lots_of s fs (places_from s at)) next spot r before after
      → PutsTo s (lots_in s at) next spot r before after
  all_puts next spot r before after u = subst (λ (l : List Charted). PutsTo s l next spot r before after) (sym lots_are) u

pub ruleset for_put_immunizations = (rules, all_ready, all_can, all_puts)
