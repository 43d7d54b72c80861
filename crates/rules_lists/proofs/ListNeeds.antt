-- What each need of the functions over the lines of a part asks.
-- Assumes nothing.
use mathlib.Core.Path.{◌≡◌, refl, sym, ap, ◌∙◌}
use mathlib.Core.Bool.{Bool, true, false, cond, and-true, and-false}
use mathlib.Core.List.{List, []}
use Prim.Native.Nat.{ℕ, ◌+◌, ◌-◌, ◌≤◌, ◌<◌}
use native.Mathlib.Omega.{arith}
use borrow.Author.Rules.{rules}
use borrow.Author.Tests.{eq-eqb, ne_eqb}
use lib.Dec.{eqb}
use lib.ListN.{length, take, drop, get_or, length-drop}
use lib.Seq.{get_or-drop, take_all}
use Rattle.house.specs.Text.{Text, any, all, same, run, number, is_digit}
use Rattle.house.proofs.Small.{both}
use Rattle.house.proofs.Decisions.{same_true, is_same_lem}
use Rattle.lines_fields.specs.declared.LineAt.{LineAt}
use Rattle.lines_fields.specs.Lines.{LineIs, fields_of, field_of, fields_len}
use Rattle.lines_fields.specs.Marks.{judged_text, judged_of}
use Rattle.lines.specs.Records.{Rec, record_of, rec_of, recs}
use Rattle.lines_fields.proofs.LineLaws.{left_falls}
use Rattle.lines_fields.proofs.FieldLaws.{fields_after, fields_le}
use Rattle.lines.proofs.PartLaws.{recs_past, recs_on}
use Rattle.rules_definitions.specs.Forms.{text, count_form, is_count, is_relaxed, is_sound}
use Rattle.rules_definitions.specs.Rules.{same_antigen, dose_of, same_count, all_in, sets_differ}
use Rattle.rules_forms.specs.TextLeaves.{value_of}
use Rattle.rules_forms.proofs.TextLaws.{value_run}
use Rattle.rules_forms.specs.FieldLeaves.{relaxed_if, sound_in}
use Rattle.rules_lists.specs.Among.{antigen_is, lot_is, dose_in, count_is, count_in, from_antigen, sound_count}
use Rattle.rules_lists.proofs.StepNeeds.{step_same}
use Rattle.rules_forms.proofs.FieldLaws.{text_is, kind_is, relaxed_is, lowest_filled, sound_in_lem, sound_either}

-- Loops over lines that ask the same of each
module _ (p : Rec → Bool) (s : Text) (at : ℕ) (x : Bool) where
  module _ (inv : x ≡ any p (recs (drop at s))) where
    pub any_past : length s ≤ at → false ≡ x
    any_past h = rw (inv, recs_past s at h)

    module _ (h : at < length s) (q : LineAt) (e : LineIs s at q) (y : Bool) (g : y ≡ p (rec_of (take (q.end - at) (drop at s)))) where
      pub any_here : y ≡ true → true ≡ x
      any_here k = rw (inv, recs_on s at q e h, ← g, k)

      pub any_next : y ≡ false → x ≡ any p (recs (drop q.next s))
      any_next k = rw (inv, recs_on s at q e h, ← g, k)

  module _ (inv : x ≡ all p (recs (drop at s))) where
    pub all_past : length s ≤ at → true ≡ x
    all_past h = rw (inv, recs_past s at h)

    module _ (h : at < length s) (q : LineAt) (e : LineIs s at q) (y : Bool) (g : y ≡ p (rec_of (take (q.end - at) (drop at s)))) where
      pub all_here : y ≡ false → false ≡ x
      all_here k = rw (inv, recs_on s at q e h, ← g, k)

      pub all_next : y ≡ true → x ≡ all p (recs (drop q.next s))
      all_next k = rw (inv, recs_on s at q e h, ← g, k)

pub ruleset for_lines = (rules, left_falls)

-- has_antigen
pub antigen_here : (l t u : Text) (x : Bool) → u ≡ judged_of l 4 → x ≡ same t u → x ≡ antigen_is t (rec_of l)
unfolding antigen_is
antigen_here l t u x d e = rw (text_is l 4, ← d) e

pub ruleset for_antigen = (rules, antigen_here)

-- is_relaxed, is_lot_sound
pub relaxed_by_lem : (l t5 t18 t19 t20 : Text) (x : Bool) → t5 ≡ judged_of l 5 → t18 ≡ judged_of l 18 → t19 ≡ judged_of l 19 → t20 ≡ judged_of l 20
    → x ≡ relaxed_if t5 t18 t19 t20 → x ≡ is_relaxed (rec_of l)
relaxed_by_lem l t5 t18 t19 t20 x a b c d e =
    rw (relaxed_is (rec_of l), text_is l 5, text_is l 18, text_is l 19, text_is l 20, ← a, ← b, ← c, ← d) e

pub ruleset for_is_relaxed = (rules, relaxed_by_lem)

module _ (l t : Text) (x : Bool) where
  pub lot_empty : (y : Bool) → y ≡ is_relaxed (rec_of l) → x ≡ sound_in 4 y 15 t → x ≡ sound_in 4 (is_relaxed (rec_of l)) 15 t
  lot_empty y d e = rw (← d) e

  pub lot_filled : (length t ≡ 0 → ⊥) → x ≡ sound_in 4 false 15 t → x ≡ sound_in 4 (is_relaxed (rec_of l)) 15 t
  unfolding sound_in
  lot_filled n e = e ∙ ap (λ (r : ℕ). eqb r 0) (lowest_filled 4 15 t 0 false (is_relaxed (rec_of l)) n)

pub ruleset for_is_lot_sound = (rules, lot_empty, lot_filled)

-- has_lot
module _ (l t : Text) (k : ℕ) (d : k ≡ record_of l) where
  pub lot_kind : (k ≡ 4 → ⊥) → false ≡ lot_is t (rec_of l)
  unfolding lot_is
  lot_kind n = rw (kind_is, ← d, ne_eqb k 4 n)

  module _ (z : k ≡ 4) (u : Text) (f : u ≡ judged_of l 15) (x : Bool) (e : x ≡ same t u) where
    pub lot_other : x ≡ false → false ≡ lot_is t (rec_of l)
    unfolding lot_is
    lot_other h = rw (kind_is, ← d, eq-eqb k 4 z, text_is l 15, ← f, ← e, h) (sym (and-false (is_sound 4 (rec_of l) 15)))

    pub lot_here : (y : Bool) → x ≡ true → y ≡ sound_in 4 (is_relaxed (rec_of l)) 15 u → y ≡ lot_is t (rec_of l)
    unfolding lot_is
    lot_here y h g =
        rw (kind_is, ← d, eq-eqb k 4 z, ← sound_in_lem 4 (rec_of l) 15, text_is l 15, ← f, ← e, h, ← g) (sym (and-true y))

pub ruleset for_lot = (rules, lot_kind, lot_other, lot_here)

-- dose_of
count_value : (t : Text) → is_count t ≡ true → value_of t ≡ number t
unfolding is_count count_form
count_value t h = value_run t 1 2 (omega arith) (omega arith) (both (run 1 2 is_digit t) _ h).0

module _ (t : Text) (x : Bool) (e : x ≡ is_count t) where
  pub dose_none : x ≡ false → 0 ≡ dose_in t
  unfolding dose_in
  dose_none h = rw (← e, h)

  pub dose_is : (n : ℕ) → x ≡ true → n ≡ value_of t → n ≡ dose_in t
  unfolding dose_in
  dose_is n h k = rw (← e, h) (k ∙ count_value t (sym e ∙ h))

pub ruleset for_dose = (rules, dose_none, dose_is)

counts_are : (l : Rec) (t : Text) (n : ℕ) (ls : List Rec) → t ≡ text l 4 → n ≡ dose_of l → any (count_is t n) ls ≡ count_in ls l
unfolding count_in count_is same_count same_antigen
counts_are l t n ls d e = rw (d, e)

-- has_count, count_among, counts_alike
module _ (l u : Text) (d : u ≡ judged_of l 4) where
  antigen_is_lem : text (rec_of l) 4 ≡ u
  antigen_is_lem = text_is l 4 ∙ sym d

  module _ (r : Text) (n : ℕ) (g : r ≡ judged_of l 5) (k : n ≡ dose_in r) where
    dose_there : dose_of (rec_of l) ≡ n
    unfolding dose_of dose_in
    dose_there = rw (text_is l 5, ← g) (sym k)

    pub count_here : (t : Text) (m : ℕ) (x : Bool) → x ≡ same t u → x ≡ true → eqb m n ≡ count_is t m (rec_of l)
    unfolding count_is
    count_here t m x e h = rw (antigen_is_lem, ← e, h, dose_there)

    pub count_among : (ls : List Rec) (x : Bool) → x ≡ any (count_is u n) ls → x ≡ count_in ls (rec_of l)
    count_among ls x e = e ∙ counts_are (rec_of l) u n ls (sym antigen_is_lem) (sym dose_there)

    pub count_alike : (p : Rec) (x : Bool) → x ≡ count_is u n p → x ≡ same_count (rec_of l) p
    unfolding count_is same_count same_antigen
    count_alike p x e = e ∙ rw (antigen_is_lem, dose_there)

  pub count_other : (t : Text) (m : ℕ) (x : Bool) → x ≡ same t u → x ≡ false → false ≡ count_is t m (rec_of l)
  unfolding count_is
  count_other t m x e h = rw (antigen_is_lem, ← e, h)

-- same_from_antigen
module _ (l : Text) (a : ℕ) (d : a ≡ fields_len 3 l) where
  pub antigen_within : a ≤ length l
  antigen_within = rw d (fields_le 3 l)

  from_antigen_lem : take (length l - a) (drop a l) ≡ from_antigen l
  unfolding from_antigen
  from_antigen_lem = take_all (length l - a) (drop a l) (omega (arith, length-drop a l)) ∙ ap (λ (n : ℕ). drop n l) d

pub antigen_on : (l p : Text) (a b : ℕ) (x : Bool) → a ≡ fields_len 3 l → b ≡ fields_len 3 p
    → x ≡ same (take (length l - a) (drop a l)) (take (length p - b) (drop b p)) → x ≡ same (from_antigen l) (from_antigen p)
antigen_on l p a b x d e g = rw (← from_antigen_lem l a d, ← from_antigen_lem p b e) g

pub ruleset for_same_from_antigen = (rules, antigen_within, antigen_on)

-- counts_alike: a field from field 4 on is decided by what stands there
module _ (l p : Text) (h : from_antigen l ≡ from_antigen p) where
  later_field : (k : ℕ) → get_or (fields_of l) (3 + k) [] ≡ get_or (fields_of p) (3 + k) []
  unfolding from_antigen
  later_field k =
      sym (get_or-drop 3 (fields_of l) k []) ∙ ap (λ (fs : List Text). get_or fs k []) (sym (fields_after 3 l) ∙ ap fields_of h ∙ fields_after 3 p) ∙ get_or-drop 3 (fields_of p) k []

  antigen_alike : judged_of l 4 ≡ judged_of p 4
  unfolding judged_of field_of
  antigen_alike = ap judged_text (later_field 0)

  dose_alike : judged_of l 5 ≡ judged_of p 5
  unfolding judged_of field_of
  dose_alike = ap judged_text (later_field 1)

  same_count_lem : true ≡ same_count (rec_of l) (rec_of p)
  unfolding same_count same_antigen dose_of
  same_count_lem =
      rw (text_is l 4, text_is p 4, text_is l 5, text_is p 5, antigen_alike, dose_alike, is_same_lem (judged_of p 4) (judged_of p 4) refl, eq-eqb (cond (is_count (judged_of p 5)) (number (judged_of p 5)) 0) (cond (is_count (judged_of p 5)) (number (judged_of p 5)) 0) refl)

pub antigens_alike : (l p : Text) (x : Bool) → x ≡ same (from_antigen l) (from_antigen p) → x ≡ true → true ≡ same_count (rec_of l) (rec_of p)
antigens_alike l p x e h = same_count_lem l p (same_true (from_antigen l) (from_antigen p) (sym e ∙ h))

pub ruleset for_has_count = (rules, count_other, count_here)

pub ruleset for_count_among = (rules, count_among)

pub ruleset for_counts_alike = (rules, antigens_alike, count_alike)

-- rule13_sets_differ, count_sound
module _ (a b : List Rec) (x : Bool) (e : x ≡ all (count_in b) a) where
  pub differ_first : x ≡ false → true ≡ sets_differ a b
  unfolding sets_differ all_in count_in
  differ_first h = rw (← e, h)

  module _ (h : x ≡ true) (y : Bool) (f : y ≡ all (count_in a) b) where
    pub differ_second : y ≡ false → true ≡ sets_differ a b
    unfolding sets_differ all_in count_in
    differ_second k = rw (← e, h, ← f, k)

    pub differ_not : y ≡ true → false ≡ sets_differ a b
    unfolding sets_differ all_in count_in
    differ_not k = rw (← e, h, ← f, k)

pub ruleset for_rule13_sets_differ = (rules, step_same, differ_first, differ_second, differ_not)

module _ (l u : Text) (d : u ≡ judged_of l 4) (x : Bool) (e : x ≡ sound_in 5 false 4 u) where
  pub antigen_sound : is_sound 5 (rec_of l) 4 ≡ x
  antigen_sound =
      sym (sound_in_lem 5 (rec_of l) 4) ∙ sound_either 5 4 (text (rec_of l) 4) (is_relaxed (rec_of l)) false refl ∙ rw (text_is l 4, ← d) (sym e)

  pub sound_not : x ≡ false → false ≡ sound_count (rec_of l)
  unfolding sound_count
  sound_not h = rw (antigen_sound, h)

  pub sound_both_lem : (w : Text) (y : Bool) → x ≡ true → w ≡ judged_of l 5 → y ≡ sound_in 5 false 5 w → y ≡ sound_count (rec_of l)
  unfolding sound_count
  sound_both_lem w y h g f =
      rw (antigen_sound, h, ← sound_in_lem 5 (rec_of l) 5, sound_either 5 5 (text (rec_of l) 5) (is_relaxed (rec_of l)) false refl, text_is l 5, ← g) f

pub ruleset for_count_sound = (rules, sound_not, sound_both_lem)
