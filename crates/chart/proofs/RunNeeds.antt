-- What each need of `put_next`, `is_of`, `put_front` and `put_immunization` asks.
-- Assumes nothing.
use mathlib.Core.Path.{◌≡◌, refl, sym, ap, ◌∙◌, subst}
use mathlib.Core.Bool.{Bool, true, false}
use mathlib.Core.List.{List, [], ◌∷◌, ◌++◌, append-nil}
use Prim.Native.Nat.{ℕ, ◌+◌, ◌≤◌, ◌<◌}
use native.Mathlib.Omega.{arith}
use borrow.Author.Rules.{rules}
use borrow.Author.Tests.{eq-eqb, ne_eqb, ltb-true, lt-ltb}
use lib.Dec.{eqb, ltb}
use lib.ListN.{length, get_or, drop}
use Rattle.house.specs.Text.{Text, all, front, after_front}
use Rattle.house.proofs.Small.{both}
use Rattle.writing.specs.Writing.{over_from}
use Rattle.writing.proofs.DecimalLaws.{long_some}
use Rattle.lines.specs.Records.{IE}
use Rattle.chart_definitions.specs.Charts.{Charted, record_kind, charted_in, well_formed}
use Rattle.chart_definitions.specs.Submissions.{record_text}
use Rattle.chart_definitions.proofs.WritingOrderLaws.{record_length}
use Rattle.chart_records.specs.Reading.{record_end}
use Rattle.chart_records.specs.Inside.{charted_at}
use Rattle.chart_records.proofs.ChartLaws.{charted_on, charted_end, end_within, end_falls}
use Rattle.chart.specs.declared.Spot.{Spot}
use Rattle.chart.specs.Inside.{Can, Puts, PutsTo, Going, of_kinds, is_sound, shot_at}
use Rattle.chart.proofs.PlaceLaws.{wf_here, wf_next}
use Rattle.chart.proofs.GoingLaws.{text_one, going_start, going_can, going_on, going_end}

-- put_next
module _ (s : Text) (at : ℕ) (h : is_sound s at ≡ true) where
  pub sound_at_lem : at < length s
  unfolding is_sound
  sound_at_lem = ltb-true _ _ (both (ltb at (length s)) (all well_formed (charted_in (drop at s))) h).0

  pub sound_all : all well_formed (charted_in (drop at s)) ≡ true
  unfolding is_sound
  sound_all = (both (ltb at (length s)) (all well_formed (charted_in (drop at s))) h).1

module _ (s : Text) (at : ℕ) (h : at < length s) (wf : all well_formed (charted_in (drop at s)) ≡ true) where
  pub sound_here : is_sound s at ≡ true
  unfolding is_sound
  sound_here = rw (lt-ltb _ _ h, wf)

pub next_formed : (s : Text) (at : ℕ) → is_sound s at ≡ true → well_formed (charted_at s at) ≡ true
next_formed s at h = wf_here s at (sound_at_lem s at h) (sound_all s at h)

module _ (r : Charted) (spot : Spot) (area : Text) (c : Can (r ∷ []) spot area) where
  pub next_room : spot.pos + length (record_text spot.number r) ≤ length area
  next_room = omega (arith, c.room, ap length (text_one spot.number r))

  pub next_number : spot.number + 1 ≤ length area
  next_number = omega (arith, next_room, c.few, record_length spot.number r, long_some spot.number)

  pub next_puts : (after : Text) (at pos : ℕ) → after ≡ over_from spot.pos (record_text spot.number r) area
      → pos ≡ spot.pos + length (record_text spot.number r)
      → Puts (r ∷ []) spot (record { at = at; number = spot.number + 1; pos = pos }) area after
  next_puts after at pos p q =
      record {
        area_is = p ∙ ap (λ (t : Text). over_from spot.pos t area) (sym (text_one spot.number r));
        pos_is = omega (arith, q, ap length (text_one spot.number r));
        number_is = refl;
      }

pub ruleset for_put_next = (rules, sound_at_lem, next_formed, next_room, next_number, next_puts)

-- is_of
module _ (s : Text) (at k a b : ℕ) (e : k ≡ record_kind (get_or s at 0)) where
  pub of_first : k ≡ a → true ≡ of_kinds a b (charted_at s at)
  unfolding of_kinds charted_at
  of_first h = rw (← e, eq-eqb _ _ h)

  pub of_second : (k ≡ a → ⊥) → eqb k b ≡ of_kinds a b (charted_at s at)
  unfolding of_kinds charted_at
  of_second n = rw (← e, ne_eqb _ _ n)

pub ruleset for_is_of = (rules, of_first, of_second)

-- put_front: where it has come to
pub record Fronting (s : Text) (a b : ℕ) (spot : Spot) (before : Text) (at number pos : ℕ) (area : Text) : Type 0 where
  pub going : Going (front (of_kinds a b) (charted_in (drop spot.at s))) spot before (front (of_kinds a b) (charted_in (drop at s))) number pos area
  pub formed : all well_formed (charted_in (drop at s)) ≡ true
  pub rest : after_front (of_kinds a b) (charted_in (drop at s)) ≡ after_front (of_kinds a b) (charted_in (drop spot.at s))

pub front_start : (s : Text) (a b : ℕ) (spot : Spot) (before : Text) → all well_formed (charted_in (drop spot.at s)) ≡ true
    → Can (front (of_kinds a b) (charted_in (drop spot.at s))) spot before → Fronting s a b spot before spot.at spot.number spot.pos before
front_start s a b spot before wf c = record { going = going_start spot before (front (of_kinds a b) (charted_in (drop spot.at s))) c; formed = wf; rest = refl }

module _ (s : Text) (a b : ℕ) (spot : Spot) (before : Text) (at number pos : ℕ) (area : Text) (f : Fronting s a b spot before at number pos area) where
  module _ (h : at < length s) (t : Bool) (e : t ≡ of_kinds a b (charted_at s at)) where
    module _ (z : t ≡ true) where
      here : front (of_kinds a b) (charted_in (drop at s)) ≡ (charted_at s at ∷ []) ++ front (of_kinds a b) (charted_in (drop (record_end s at) s))
      here = ap (front (of_kinds a b)) (charted_on s at h) ∙ rw (← e, z)

      pub front_sound : is_sound s at ≡ true
      front_sound = sound_here s at h f.formed

      pub front_can : Can (charted_at s at ∷ []) (record { at = at; number = number; pos = pos }) area
      front_can =
          going_can spot before (front (of_kinds a b) (charted_in (drop spot.at s))) (front (of_kinds a b) (charted_in (drop at s))) number pos area f.going
          (charted_at s at ∷ []) (front (of_kinds a b) (charted_in (drop (record_end s at) s))) here at

      pub front_on : (r : Spot) (next : Text) → Puts (charted_at s at ∷ []) (record { at = at; number = number; pos = pos }) r area next → r.at ≡ record_end s at
          → Fronting s a b spot before r.at r.number r.pos next
      front_on r next p q =
          subst (λ (m : ℕ). Fronting s a b spot before m r.number r.pos next) (sym q)
          record {
            going =
                going_on spot before (front (of_kinds a b) (charted_in (drop spot.at s))) (front (of_kinds a b) (charted_in (drop at s))) number pos area f.going
                (charted_at s at ∷ []) (front (of_kinds a b) (charted_in (drop (record_end s at) s))) here at r next p;
            formed = wf_next s at h f.formed;
            rest = sym (ap (after_front (of_kinds a b)) (charted_on s at h) ∙ rw (← e, z)) ∙ f.rest;
          }

    module _ (z : t ≡ false) where
      none : front (of_kinds a b) (charted_in (drop at s)) ≡ []
      none = ap (front (of_kinds a b)) (charted_on s at h) ∙ rw (← e, z)

      pub front_stop : PutsTo s (front (of_kinds a b) (charted_in (drop spot.at s))) (after_front (of_kinds a b) (charted_in (drop spot.at s))) spot
          (record { at = at; number = number; pos = pos }) before area
      front_stop =
          record {
            puts =
                going_end spot before (front (of_kinds a b) (charted_in (drop spot.at s))) (front (of_kinds a b) (charted_in (drop at s))) number pos area f.going
                none at;
            rest = charted_on s at h ∙ sym stays ∙ sym (ap (after_front (of_kinds a b)) (charted_on s at h)) ∙ f.rest;
          }
        where
          stays : after_front (of_kinds a b) (charted_at s at ∷ charted_in (drop (record_end s at) s)) ≡ charted_at s at ∷ charted_in (drop (record_end s at) s)
          stays = rw (← e, z)

  module _ (h : length s ≤ at) where
    pub front_end : PutsTo s (front (of_kinds a b) (charted_in (drop spot.at s))) (after_front (of_kinds a b) (charted_in (drop spot.at s))) spot
        (record { at = at; number = number; pos = pos }) before area
    front_end =
        record {
          puts =
              going_end spot before (front (of_kinds a b) (charted_in (drop spot.at s))) (front (of_kinds a b) (charted_in (drop at s))) number pos area f.going
              (ap (front (of_kinds a b)) (charted_end s at h)) at;
          rest = charted_end s at h ∙ sym (ap (after_front (of_kinds a b)) (charted_end s at h)) ∙ f.rest;
        }

  pub front_long : length area ≡ length before
  front_long = f.going.long

pub ruleset for-put-front =
    (rules, end_within, end_falls, front_start, front_sound, front_can, front_on, front_stop, front_end, front_long)

pub ruleset for_front_again = (front_on)

-- put_immunization
module _ (s : Text) (spot : Spot) (before : Text) (h : is_sound s spot.at ≡ true) (c : Can (shot_at s spot.at) spot before) where
  abbrev first : List Charted
  first = charted_at s spot.at ∷ []

  abbrev counts : List Charted
  counts = front (of_kinds IE IE) (charted_in (drop (record_end s spot.at) s))

  start : Going (shot_at s spot.at) spot before (shot_at s spot.at) spot.number spot.pos before
  start = going_start spot before (shot_at s spot.at) c

  shot : shot_at s spot.at ≡ first ++ counts
  unfolding shot_at
  shot = refl

  pub shot_can : Can (charted_at s spot.at ∷ []) spot before
  shot_can = going_can spot before (shot_at s spot.at) (shot_at s spot.at) spot.number spot.pos before start first counts shot spot.at

  module _ (r : Spot) (mid : Text) (p : Puts (charted_at s spot.at ∷ []) spot r before mid) (q : r.at ≡ record_end s spot.at) where
    next : Going (shot_at s spot.at) spot before counts r.number r.pos mid
    next = going_on spot before (shot_at s spot.at) (shot_at s spot.at) spot.number spot.pos before start first counts shot spot.at r mid p

    moved : counts ≡ front (of_kinds IE IE) (charted_in (drop r.at s))
    moved = ap (λ (m : ℕ). front (of_kinds IE IE) (charted_in (drop m s))) (sym q)

    going : Going (shot_at s spot.at) spot before (front (of_kinds IE IE) (charted_in (drop r.at s))) r.number r.pos mid
    going = subst (λ (l : List Charted). Going (shot_at s spot.at) spot before l r.number r.pos mid) moved next

    pub shot_formed : all well_formed (charted_in (drop r.at s)) ≡ true
    shot_formed =
        ap (λ (m : ℕ). all well_formed (charted_in (drop m s))) q ∙ wf_next s spot.at (sound_at_lem s spot.at h) (sound_all s spot.at h)

    pub shot_can_on : Can (front (of_kinds IE IE) (charted_in (drop r.at s))) r mid
    shot_can_on =
        going_can spot before (shot_at s spot.at) (front (of_kinds IE IE) (charted_in (drop r.at s))) r.number r.pos mid going
        (front (of_kinds IE IE) (charted_in (drop r.at s))) [] (sym (append-nil (front (of_kinds IE IE) (charted_in (drop r.at s))))) r.at

    pub shot_puts : (t : Spot) (after : Text) (next : List Charted)
        → PutsTo s (front (of_kinds IE IE) (charted_in (drop r.at s))) next r t mid after → Puts (shot_at s spot.at) spot t before after
    shot_puts t after next u =
        going_end spot before (shot_at s spot.at) [] t.number t.pos after
        (going_on spot before (shot_at s spot.at) (front (of_kinds IE IE) (charted_in (drop r.at s))) r.number r.pos mid going
        (front (of_kinds IE IE) (charted_in (drop r.at s))) [] (sym (append-nil (front (of_kinds IE IE) (charted_in (drop r.at s))))) r.at t after u.puts)
        refl t.at

pub ruleset for_put_immunization = (rules, shot_can, shot_formed, shot_can_on, shot_puts)
