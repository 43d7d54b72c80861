-- What each need of the functions that bring lots of one event together asks.
-- Assumes nothing.
use mathlib.Core.Path.{◌≡◌, refl, sym, ap, ◌∙◌, subst}
use mathlib.Core.Bool.{Bool, true, false, not}
use mathlib.Core.List.{List, [], ◌∷◌, ◌++◌, append_assoc, append-nil}
use Prim.Native.Nat.{ℕ, zero, suc, ◌+◌, ◌-◌, ◌≤◌, ◌<◌}
use native.Mathlib.Nat.{not-suc-le-zero, le_of_suc-le-suc}
use native.Mathlib.Omega.{arith}
use borrow.Author.Rules.{rules}
use borrow.Author.Tests.{eq-eqb, ne_eqb}
use lib.ListN.{length, get_or, take, drop, set, length-set, length-drop}
use lib.Seq.{take-suc, get_or-drop}
use Rattle.house.specs.Text.{Text, all, front, joined, same}
use Rattle.house.specs.Over.{over}
use Rattle.house.proofs.Small.{both}
use Rattle.house.proofs.Suffix.{drop_here, drop_past}
use Rattle.writing.specs.Writing.{over_from}
use Rattle.writing.proofs.OverLaws.{over_from_none, over_from_head}
use Rattle.lines.specs.Records.{II, IE}
use Rattle.lines_words.specs.Words.{key_at}
use Rattle.chart_definitions.specs.Charts.{Charted, record_kind, charted_in, well_formed}
use Rattle.chart_records.specs.Reading.{record_end}
use Rattle.chart_records.proofs.ChartLaws.{end_within, end_falls}
use Rattle.chart.specs.declared.Spot.{Spot}
use Rattle.chart.specs.Inside.{Can, Puts, Going, is_sound, shot_at, lot_places, event_at, like, leads, run_of, spot_at}
use Rattle.chart.proofs.GoingLaws.{going_start, going_can, going_on, going_end}
use Rattle.chart.proofs.PlaceLaws.{wf_next, places_ii, places_ie, places_other, places_end}

-- the positions from a position on
abbrev pub places_from : Text → ℕ → List ℕ
places_from s at = lot_places at (charted_in (drop at s))

-- GATHER

pub record Gathering (s : Text) (at : ℕ) (before : List ℕ) (from n : ℕ) (places : List ℕ) : Type 0 where
  pub formed : all well_formed (charted_in (drop from s)) ≡ true
  pub area_on : over (places_from s at) before ≡ over_from n (places_from s from) places
  pub many : n + length (places_from s from) ≡ length (places_from s at)
  pub long : length places ≡ length before

pub gather_start : (s : Text) (at : ℕ) (places : List ℕ) → all well_formed (charted_in (drop at s)) ≡ true → Gathering s at places at 0 places
gather_start s at places wf = record { formed = wf; area_on = refl; many = omega arith; long = refl }

module _ (s : Text) (at : ℕ) (before : List ℕ) (from n : ℕ) (places : List ℕ) (g : Gathering s at before from n places) where
  module _ (h : from < length s) (k : ℕ) (e : k ≡ record_kind (get_or s from 0)) where
    module _ (z : k ≡ II) where
      here : places_from s from ≡ from ∷ places_from s (record_end s from)
      here = places_ii s from h g.formed (sym e ∙ z)

      pub gather_room : length (places_from s at) ≤ length before → n < length places
      gather_room r = omega (arith, r, g.long, g.many, ap length here)

      pub gather_put : (end : ℕ) → end ≡ record_end s from → Gathering s at before end (n + 1) (set places n from)
      gather_put end q =
          subst (λ (m : ℕ). Gathering s at before m (n + 1) (set places n from)) (sym q)
          record {
            formed = wf_next s from h g.formed;
            area_on = g.area_on ∙ ap (λ (l : List ℕ). over_from n l places) here ∙ over_from_head n from (places_from s (record_end s from)) places;
            many = omega (arith, g.many, ap length here);
            long = kept ∙ g.long;
          }
        where
          kept : length (set places n from) ≡ length places
          kept = length-set places n from

    pub gather_skip : k ≡ IE → (end : ℕ) → end ≡ record_end s from → Gathering s at before end n places
    gather_skip z end q =
        let here : places_from s from ≡ places_from s (record_end s from) = places_ie s from h g.formed (sym e ∙ z) in
        subst (λ (m : ℕ). Gathering s at before m n places) (sym q)
        record {
          formed = wf_next s from h g.formed;
          area_on = g.area_on ∙ ap (λ (l : List ℕ). over_from n l places) here;
          many = omega (arith, g.many, ap length here);
          long = g.long;
        }

    none : (k ≡ II → ⊥) → (k ≡ IE → ⊥) → places_from s from ≡ []
    none a b = places_other s from h g.formed (λ z. a (e ∙ z)) (λ z. b (e ∙ z))

    pub gather_other : (k ≡ II → ⊥) → (k ≡ IE → ⊥) → n ≡ length (places_from s at)
    gather_other a b = omega (arith, g.many, ap length (none a b))

    pub gather_other_is : (k ≡ II → ⊥) → (k ≡ IE → ⊥) → places ≡ over (places_from s at) before
    gather_other_is a b = sym (g.area_on ∙ ap (λ (l : List ℕ). over_from n l places) (none a b) ∙ over_from_none n places)

  module _ (h : length s ≤ from) where
    pub gather_end : n ≡ length (places_from s at)
    gather_end = omega (arith, g.many, ap length (places_end s from h))

    pub gather_end_is : places ≡ over (places_from s at) before
    gather_end_is = sym (g.area_on ∙ ap (λ (l : List ℕ). over_from n l places) (places_end s from h) ∙ over_from_none n places)

  pub gather_long : length places ≡ length before
  gather_long = g.long

pub ruleset for_gather =
    (rules, end_within, end_falls, gather_start, gather_room, gather_put, gather_skip, gather_other, gather_other_is, gather_end, gather_end_is, gather_long)

-- IS_FIRST
module _ (s : Text) (es : List ℕ) (i : ℕ) where
  pub leads_none : i ≡ 0 → true ≡ leads (event_at s) es i
  unfolding leads
  leads_none e = rw (eq-eqb _ _ e)

  pub leads_here : (i ≡ 0 → ⊥) → (t : Bool) → t ≡ same (key_at 2 s (get_or es (i - 1) 0)) (key_at 2 s (get_or es i 0)) → not t ≡ leads (event_at s) es i
  unfolding leads event_at
  leads_here n t q = rw (ne_eqb _ _ n, ← q)

pub ruleset for_is_first = (rules, leads_none, leads_here)

-- PUT_EACH

all_at : (p : ℕ → Bool) (es : List ℕ) (j : ℕ) → all p es ≡ true → j < length es → p (get_or es j 0) ≡ true
all_at p [] j h k = absurd (not-suc-le-zero k)
all_at p (e ∷ es) zero h k = (both (p e) (all p es) h).0
all_at p (e ∷ es) (suc j) h k = all_at p es j (both (p e) (all p es) h).1 (le_of_suc-le-suc k)

pub run_sound : (s : Text) (es : List ℕ) (j q : ℕ) → all (is_sound s) es ≡ true → j < length es → q ≡ get_or es j 0 → is_sound s q ≡ true
run_sound s es j q h k e = ap (is_sound s) e ∙ all_at (is_sound s) es j h k

pub record Each (s : Text) (es : List ℕ) (spot : Spot) (before : Text) (j number pos : ℕ) (area : Text) : Type 0 where
  pub going : Going (joined (shot_at s) es) spot before (joined (shot_at s) (drop j es)) number pos area

pub each_start : (s : Text) (es : List ℕ) (spot : Spot) (before : Text) → Can (joined (shot_at s) es) spot before
    → Each s es spot before 0 spot.number spot.pos before
each_start s es spot before c = record { going = going_start spot before (joined (shot_at s) es) c }

module _ (s : Text) (es : List ℕ) (spot : Spot) (before : Text) (j number pos : ℕ) (area : Text) (g : Each s es spot before j number pos area) where
  module _ (h : j < length es) where
    each_here : joined (shot_at s) (drop j es) ≡ shot_at s (get_or es j 0) ++ joined (shot_at s) (drop (j + 1) es)
    each_here = ap (joined (shot_at s)) (drop_here es j h)

    module _ (q : ℕ) (e : q ≡ get_or es j 0) where
      pub each_can : Can (shot_at s q) (spot_at q number pos) area
      each_can =
          subst (λ (m : ℕ). Can (shot_at s m) (spot_at m number pos) area) (sym e)
          (going_can spot before (joined (shot_at s) es) (joined (shot_at s) (drop j es)) number pos area g.going (shot_at s (get_or es j 0))
          (joined (shot_at s) (drop (j + 1) es)) each_here (get_or es j 0))

      pub each_on : (r : Spot) (next : Text) → Puts (shot_at s q) (spot_at q number pos) r area next → Each s es spot before (j + 1) r.number r.pos next
      each_on r next u =
          record {
            going =
                going_on spot before (joined (shot_at s) es) (joined (shot_at s) (drop j es)) number pos area g.going (shot_at s (get_or es j 0))
                (joined (shot_at s) (drop (j + 1) es)) each_here (get_or es j 0) r next
                (subst (λ (m : ℕ). Puts (shot_at s m) (spot_at m number pos) r area next) e u);
          }

  all_put : (at : ℕ) → length es ≤ j → Puts (joined (shot_at s) es) spot (spot_at at number pos) before area
  all_put at h =
      going_end spot before (joined (shot_at s) es) (joined (shot_at s) (drop j es)) number pos area g.going (ap (joined (shot_at s)) (drop_past es j h)) at

  pub each_long : length area ≡ length before
  each_long = g.going.long

pub each_end : (s : Text) (es : List ℕ) (spot : Spot) (before : Text) (j : ℕ) (r : Spot) (area : Text) → Each s es spot before j r.number r.pos area
    → length es ≤ j → Puts (joined (shot_at s) es) spot r before area
each_end s es spot before j r area g h = all_put s es spot before j r.number r.pos area g r.at h

pub ruleset for_put_each = (rules, run_sound, each_start, each_can, each_end, each_long)

pub ruleset for_each_again = (each_on)

-- RUN_END
module _ (s : Text) (es : List ℕ) (i p : ℕ) where
  abbrev run : List ℕ
  run = front (like (event_at s) p) (drop i es)

  -- of the run so many have been seen, and these are left
  pub record Ending (j : ℕ) : Type 0 where
    pub from : i ≤ j
    pub upto : j ≤ length es
    pub seen : run ≡ take (j - i) (drop i es) ++ front (like (event_at s) p) (drop j es)

  pub ending_start : i < length es → Ending i
  ending_start h =
      let e : i - i ≡ 0 = omega arith in
      record { from = omega arith; upto = omega arith; seen = ap (λ (n : ℕ). take n (drop i es) ++ run) (sym e) }

  module _ (j : ℕ) (g : Ending j) where
    module _ (h : j < length es) (t : Bool) (e : t ≡ same (key_at 2 s p) (key_at 2 s (get_or es j 0))) where
      front_here : t ≡ true → front (like (event_at s) p) (drop j es) ≡ get_or es j 0 ∷ front (like (event_at s) p) (drop (j + 1) es)
      unfolding event_at
      front_here z = rw (drop_here es j h, ← e, z)

      front_none : t ≡ false → front (like (event_at s) p) (drop j es) ≡ []
      unfolding event_at
      front_none z = rw (drop_here es j h, ← e, z)

      -- one more
      more : take (j + 1 - i) (drop i es) ≡ take (j - i) (drop i es) ++ (get_or es j 0 ∷ [])
      more =
          let a : j + 1 - i ≡ suc (j - i) = omega (arith, g.from) in
          let b : i + (j - i) ≡ j = omega (arith, g.from) in
          ap (λ (n : ℕ). take n (drop i es)) a
          ∙ take-suc (drop i es) (j - i) 0 (omega (arith, length-drop i es, g.from, h))
          ∙ ap (λ (x : ℕ). take (j - i) (drop i es) ++ (x ∷ [])) (get_or-drop i es (j - i) 0 ∙ ap (λ (n : ℕ). get_or es n 0) b)

      pub ending_on : t ≡ true → Ending (j + 1)
      ending_on z =
          record {
            from = omega (arith, g.from);
            upto = omega (arith, h);
            seen =
                g.seen ∙ ap (λ (l : List ℕ). take (j - i) (drop i es) ++ l) (front_here z)
                ∙ sym (append_assoc (take (j - i) (drop i es)) (get_or es j 0 ∷ []) (front (like (event_at s) p) (drop (j + 1) es)))
                ∙ ap (λ (l : List ℕ). l ++ front (like (event_at s) p) (drop (j + 1) es)) (sym more);
          }

      pub ending_stop : t ≡ false → take (j - i) (drop i es) ≡ run
      ending_stop z = sym (g.seen ∙ ap (λ (l : List ℕ). take (j - i) (drop i es) ++ l) (front_none z) ∙ append-nil (take (j - i) (drop i es)))

    pub ending_end : length es ≤ j → take (j - i) (drop i es) ≡ run
    ending_end h =
        sym (g.seen ∙ ap (λ (l : List ℕ). take (j - i) (drop i es) ++ front (like (event_at s) p) l) (drop_past es j h) ∙ append-nil (take (j - i) (drop i es)))

pub ruleset for_run_end = (rules, ending_start, ending_on, ending_stop, ending_end)

-- PUT_RUN
module _ (s : Text) (es : List ℕ) (i end p : ℕ) (e : take (end - i) (drop i es) ≡ front (like (event_at s) p) (drop i es)) where
  run_is : joined (shot_at s) (take (end - i) (drop i es)) ≡ run_of s es i p
  unfolding run_of
  run_is = ap (joined (shot_at s)) e

  pub run_can : (spot : Spot) (area : Text) → Can (run_of s es i p) spot area → Can (joined (shot_at s) (take (end - i) (drop i es))) spot area
  run_can spot area c = subst (λ (l : List Charted). Can l spot area) (sym run_is) c

  pub run_puts : (spot r : Spot) (before after : Text) → Puts (joined (shot_at s) (take (end - i) (drop i es))) spot r before after
      → Puts (run_of s es i p) spot r before after
  run_puts spot r before after u = subst (λ (l : List Charted). Puts l spot r before after) run_is u

all_drop : (p : ℕ → Bool) (n : ℕ) (es : List ℕ) → all p es ≡ true → all p (drop n es) ≡ true
all_drop p zero es h = h
all_drop p (suc n) [] h = h
all_drop p (suc n) (e ∷ es) h = all_drop p n es (both (p e) (all p es) h).1

all_take : (p : ℕ → Bool) (n : ℕ) (es : List ℕ) → all p es ≡ true → all p (take n es) ≡ true
all_take p zero es h = refl
all_take p (suc n) [] h = h
all_take p (suc n) (e ∷ es) h = let q = both (p e) (all p es) h in rw q.0 (all_take p n es q.1)

pub part_sound : (s : Text) (es : List ℕ) (i n : ℕ) → all (is_sound s) es ≡ true → all (is_sound s) (take n (drop i es)) ≡ true
part_sound s es i n h = all_take (is_sound s) n (drop i es) (all_drop (is_sound s) i es h)

pub ruleset for_put_run = (rules, run_can, run_puts, part_sound)
