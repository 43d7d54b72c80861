-- What each need of `take_off`, `answer` and `measure` asks.
-- Assumes nothing.
use mathlib.Core.Path.{◌≡◌, refl, sym, ap, ◌∙◌}
use mathlib.Core.Bool.{Bool, true, false, cond}
use mathlib.Core.List.{List, [], ◌∷◌}
use Rattle.std.specs.Prelude.{Option, Some, None, SomeIff}
use Prim.Native.Nat.{ℕ, ◌+◌, ◌-◌, ◌≤◌, ◌<◌}
use native.Mathlib.Omega.{arith}
use borrow.Author.Rules.{rules}
use borrow.Author.Tests.{lt-ltb, le-ltb, ltb-true, ltb-false, lt-leb, le-leb}
use lib.Dec.{ltb}
use lib.ListN.{length, get_or, drop}
use Rattle.house.specs.Text.{Text}
use Rattle.house.proofs.Small.{both, clash}
use Rattle.writing.specs.Writing.{decimal}
use Rattle.lines.specs.Records.{IH, IF}
use Rattle.lines.specs.Shape.{follows}
use Rattle.chart_definitions.specs.Charts.{Charted, record_kind, body_width, charted_in, well_formed, is_chart}
use Rattle.chart_definitions.specs.Submissions.{record_text, RECORD, ROOM}
use Rattle.chart_records.specs.Reading.{charted_at, record_end, right_after, fits_in, measured, note_of, notes_from, notes_of}
use Rattle.chart_records.specs.Inside.{given_end, note_if, right_from, rest_length, rest_fits, left_after, left_fits, answer_of, measured_from}
use Rattle.chart_records.proofs.ChartLaws.{charted_end, charted_on, at_kind, end_within, end_behind, end_falls}
use Rattle.chart_records.proofs.FormNeeds.{right_cons, right_none}
use Rattle.chart_records.proofs.LengthNeeds.{rest_none, rest_short, rest_on}
use Rattle.chart_records.proofs.NoteLaws.{end_whole, given_from, note_given, note_long, notes_cons, notes_wrong, notes_none}

-- take_off
pub off_none : (left : Option ℕ) (k : ℕ) → left ≡ None → None ≡ left_after left k
unfolding left_after
off_none left k e = rw e

pub off_some : (o r : Option ℕ) (left k long : ℕ) → o ≡ Some left → long ≡ k → SomeIff r (long ≤ left) (left - long) → r ≡ left_after o k
unfolding left_after
off_some o None left k long e el n = let h : left < long = omega (arith, n) in rw (e, ← el, lt-ltb left long h)
off_some o (Some x) left k long e el q = rw (e, ← el, le-ltb left long q.0, q.1)

pub ruleset for_take_off = (rules, off_none, off_some)

-- answer
module _ (right : Bool) (n : ℕ) (o : Option ℕ) where
  pub answer_over : (r : ℕ) → o ≡ None → r ≡ cond right ROOM RECORD → r ≡ answer_of right n o
  unfolding answer_of left_fits
  answer_over r z e = e ∙ rw z

  pub answer_record : right ≡ false → 8 ≡ answer_of right n o
  unfolding answer_of
  answer_record z = rw z

  module _ (left : ℕ) (eo : o ≡ Some left) (z : right ≡ true) (d : ℕ) (ed : d ≡ length (decimal (n + 2))) where
    pub answer_short : left < d + 7 → 9 ≡ answer_of right n o
    unfolding answer_of left_fits rest_fits
    answer_short h = rw (eo, z, rest_none n, ← ed, lt-leb (d + 7) left h)

    pub answer_fits : d + 7 ≤ left → 0 ≡ answer_of right n o
    unfolding answer_of left_fits rest_fits
    answer_fits h = rw (eo, z, rest_none n, ← ed, le-leb (d + 7) left h)

pub ruleset for_answer = (rules, answer_over, answer_record, answer_short, answer_fits)

-- where no record is left, and where one is not right
answer_end : (p n : ℕ) (left : Option ℕ) → measured_from p n left [] ≡ answer_of (follows p IF) n left
unfolding measured_from answer_of
answer_end p n left = rw (right_none p)

answer_wrong : (n : ℕ) (left : Option ℕ) → answer_of false n left ≡ RECORD
unfolding answer_of
answer_wrong n left = refl

-- measure: the record at a position
left_cons : (n : ℕ) (left : Option ℕ) (r : Charted) (rs : List Charted)
    → left_fits n left (r ∷ rs) ≡ left_fits (n + 1) (left_after left (length (record_text n r))) rs
unfolding left_fits left_after
left_cons n None r rs = refl
left_cons n (Some left) r rs = go (ltb left (length (record_text n r))) refl
  where
    go : (v : Bool) → ltb left (length (record_text n r)) ≡ v
        → rest_fits n left (r ∷ rs) ≡ left_fits (n + 1) (cond v None (Some (left - length (record_text n r)))) rs
    go true q = rest_short n left r rs (ltb-true left (length (record_text n r)) q)
    go false q = rest_on n left r rs (ltb-false left (length (record_text n r)) q)

module _ (p n : ℕ) (left : Option ℕ) (r : Charted) (rs : List Charted) where
  measured_wrong : right_after p r ≡ false → measured_from p n left (r ∷ rs) ≡ RECORD
  unfolding measured_from
  measured_wrong e = rw (right_cons p r rs, e)

  measured_on : right_after p r ≡ true → measured_from p n left (r ∷ rs) ≡ measured_from r.kind (n + 1) (left_after left (length (record_text n r))) rs
  unfolding measured_from
  measured_on e = rw (right_cons p r rs, e, left_cons n left r rs)

note_same : (at end : ℕ) (ns : List ℕ) (s : Text) → at < length s → well_formed (charted_at s at) ≡ true → end ≡ given_end s at → note_if at end ns ≡ note_of at (charted_at s at) ns
note_same at end ns s h w e = ap (λ (x : ℕ). note_if at x ns) e ∙ note_given s at ns h w

-- what is still to be measured and noted, from the record at a position on
module _ (s : Text) (room : ℕ) (ns₀ : List ℕ) where
  pub record Measuring (ns : List ℕ) (left : Option ℕ) (at n p : ℕ) : Type 0 where
    pub within : at ≤ length s
    pub few : n ≤ at + 1
    pub size : length ns ≡ length ns₀
    pub answer : measured s room ≡ measured_from p n left (charted_in (drop at s))
    pub noted : notes_of s ns₀ ≡ notes_from at p (charted_in (drop at s)) ns

  pub measuring_start : Measuring ns₀ (Some room) 0 1 IH
  unfolding measured notes_of measured_from left_fits is_chart fits_in right_from rest_fits rest_length
  measuring_start =
      record {
        within = omega arith;
        few = omega arith;
        size = refl;
        answer = refl;
        noted = refl;
      }

  module _ (ns : List ℕ) (left : Option ℕ) (at n p : ℕ) (inv : Measuring ns left at n p) where
    pub measuring_size : length ns ≡ length ns₀
    measuring_size = inv.size

    pub measuring_few : n ≤ at + 1
    measuring_few = inv.few

    pub measuring_within : at ≤ length s
    measuring_within = inv.within

    -- behind the last record
    module _ (h : length s ≤ at) where
      pub measuring_answer : (f : Bool) (r : ℕ) → f ≡ follows p IF → r ≡ answer_of f n left → r ≡ measured s room
      measuring_answer f r ef e = e ∙ rw ef (sym (inv.answer ∙ ap (measured_from p n left) (charted_end s at h) ∙ answer_end p n left))

      pub measuring_notes : ns ≡ notes_of s ns₀
      measuring_notes = sym (inv.noted ∙ ap (λ (rs : List Charted). notes_from at p rs ns) (charted_end s at h) ∙ notes_none at p ns)

    module _ (h : at < length s) (end : ℕ) (ee : end ≡ cond (right_after p (charted_at s at)) (given_end s at) 0) where
      -- a record that is not right
      is_wrong : end ≡ 0 → right_after p (charted_at s at) ≡ false
      is_wrong z = go (right_after p (charted_at s at)) ee
        where
          go : (v : Bool) → end ≡ cond v (given_end s at) 0 → v ≡ false
          go true e = clash (omega (arith, e, z, given_from s at h))
          go false e = refl

      pub wrong_answer : (r : ℕ) → end ≡ 0 → r ≡ answer_of false n left → r ≡ measured s room
      wrong_answer r z e =
          e ∙ answer_wrong n left
          ∙ sym (inv.answer ∙ ap (measured_from p n left) (charted_on s at h) ∙ measured_wrong p n left (charted_at s at) (charted_in (drop (record_end s at) s)) (is_wrong z))

      pub wrong_notes : end ≡ 0 → ns ≡ notes_of s ns₀
      wrong_notes z =
          sym (inv.noted ∙ ap (λ (rs : List Charted). notes_from at p rs ns) (charted_on s at h) ∙ notes_wrong at p (charted_at s at) (charted_in (drop (record_end s at) s)) ns (is_wrong z))

      -- one that is
      module _ (z : end ≡ 0 → ⊥) where
        is_right_lem : (right_after p (charted_at s at) ≡ true) × (end ≡ given_end s at)
        is_right_lem = go (right_after p (charted_at s at)) ee
          where
            go : (v : Bool) → end ≡ cond v (given_end s at) 0 → (v ≡ true) × (end ≡ given_end s at)
            go true e = (refl, e)
            go false e = absurd (z e)

        pub right_form : well_formed (charted_at s at) ≡ true
        unfolding right_after
        right_form = (both (well_formed (charted_at s at)) (follows p (charted_at s at).kind) is_right_lem.0).0

        pub right_given : end ≡ given_end s at
        right_given = is_right_lem.1

        pub right_behind : at < end
        right_behind = omega (arith, is_right_lem.1, given_from s at h)

        pub measuring_on : (new : List ℕ) (sp : Option ℕ) (k e : ℕ) → new ≡ note_if at end ns → sp ≡ left_after left (length (record_text n (charted_at s at)))
            → k ≡ record_kind (get_or s at 0) → e ≡ record_end s at → Measuring new sp e (n + 1) k
        measuring_on new sp k e en es ek el =
            let qn : new ≡ note_of at (charted_at s at) ns = en ∙ note_same at end ns s h right_form right_given in
            let qe : e ≡ at + 1 + body_width (record_kind (get_or s at 0)) = el ∙ end_whole s at h right_form in
            record {
              within = end_within s at e el;
              few = omega (arith, inv.few, end_behind s at e el h);
              size = ap length qn ∙ note_long at (charted_at s at) ns ∙ inv.size;
              answer =
                  inv.answer ∙ ap (measured_from p n left) (charted_on s at h)
                  ∙ measured_on p n left (charted_at s at) (charted_in (drop (record_end s at) s)) is_right_lem.0
                  ∙ rw (← es, ← el, at_kind, ← ek);
              noted =
                  inv.noted ∙ ap (λ (rs : List Charted). notes_from at p rs ns) (charted_on s at h)
                  ∙ notes_cons at p (charted_at s at) (charted_in (drop (record_end s at) s)) ns is_right_lem.0
                  ∙ rw (← qn, ← el, at_kind, ← qe, ← ek);
            }

pub ruleset for_measure = (rules, measuring_start, measuring_size, measuring_few, measuring_within, measuring_answer, measuring_notes, wrong_answer, wrong_notes, right_form, right_given, right_behind, measuring_on, end_falls)
