-- What each need of the functions that gather entries asks.
-- Assumes nothing.
use mathlib.Core.Path.{◌≡◌, refl, sym, ap, ◌∙◌}
use mathlib.Core.Bool.{Bool, true, false, cond, ◌&&◌}
use mathlib.Core.List.{List, [], ◌∷◌, ◌++◌}
use Prim.Native.Nat.{ℕ, zero, suc, ◌+◌, ◌-◌, ◌*◌, ◌≤◌, ◌<◌}
use native.Mathlib.Numerals.{add-one}
use native.Mathlib.Omega.{arith}
use borrow.Author.Rules.{rules}
use borrow.Author.Tests.{eq-eqb, ne_eqb, le-leb, lt-leb, leb-true}
use lib.Dec.{leb}
use lib.ListN.{length, take, drop, set, length-set, length-drop, take-append-drop}
use lib.Seq.{drop-drop, length-take-le}
use Rattle.house.specs.Text.{Text, all, run, number, is_digit, is_empty}
use Rattle.house.specs.Over.{over}
use Rattle.house.proofs.Small.{both}
use Rattle.lines_fields.specs.declared.LineAt.{LineAt}
use Rattle.lines_fields.specs.Lines.{lines_of, LineIs, fields_len}
use Rattle.lines_fields.specs.Marks.{judged_of}
use Rattle.lines_fields.specs.Inside.{part}
use Rattle.lines.specs.Records.{record_of, rec_of}
use Rattle.lines_fields.proofs.CutLaws.{part_start, part_drop}
use Rattle.lines_fields.proofs.LineLaws.{at_next, at_past, at_in, lines_on, lines_past}
use Rattle.lines_fields.proofs.FieldLaws.{fields_le}
use Rattle.rules_definitions.specs.Forms.{count_form, is_count, is_relaxed, is_sound}
use Rattle.rules_definitions.specs.Rules.{dose_of}
use Rattle.rules_forms.specs.FieldLeaves.{sound_in}
use Rattle.rules_forms.proofs.ClassLaws.{run_parts, run_most}
use Rattle.rules_forms.proofs.FieldLaws.{text_is, kind_is, empty_true, empty_false, sound_in_lem}
use Rattle.rules_lists.specs.Among.{dose_in}
use Rattle.rules_lists.specs.Entries.{antigen_entry, lot_start, lot_entry, entry_of, entries_from, entries_in}
use Rattle.std.specs.Prelude.{Option, Some, None, option_to_list}
use Rattle.rules_lists.proofs.ListNeeds.{antigen_sound}

-- count_of: a count has one or two digits
digit_most : (b : ℕ) → is_digit b ≡ true → b ≤ 57
unfolding is_digit
digit_most b h = leb-true _ _ (both (leb 48 b) (leb b 57) h).1

two_digits : (t : Text) → length t ≤ 2 → all is_digit t ≡ true → number t ≤ 99
unfolding number
two_digits [] l a = omega arith
two_digits (x ∷ []) l a = omega (arith, digit_most x (both (is_digit x) true a).0)
two_digits (x ∷ y ∷ []) l a =
    let p = both (is_digit x) (is_digit y && true) a in
    omega (arith, digit_most x p.0, digit_most y (both (is_digit y) true p.1).0)
two_digits (x ∷ y ∷ z ∷ t) l a = absurd (omega arith)

count_most : (t : Text) → is_count t ≡ true → number t ≤ 99
unfolding is_count count_form
count_most t h =
    let r = (both (run 1 2 is_digit t) _ h).0 in
    two_digits t (run_most t 1 2 is_digit r) (run_parts t 1 2 is_digit r).1

dose_most : (t : Text) → dose_in t ≤ 99
unfolding dose_in
dose_most t = go (is_count t) refl
  where
    go : (b : Bool) → is_count t ≡ b → cond b (number t) 0 ≤ 99
    go true e = count_most t e
    go false e = omega arith

module _ (l r : Text) (n : ℕ) (g : r ≡ judged_of l 5) (k : n ≡ dose_in r) where
  pub count_is_lem : (b : Bool) → b ≡ true → n ≡ cond b (dose_of (rec_of l)) 0
  unfolding dose_of dose_in
  count_is_lem b t = rw (t, text_is l 5, ← g) k

  pub count_few : n ≤ 99
  count_few = rw k (dose_most r)

pub ruleset for_count_of = (rules, count_is_lem, count_few)

-- antigen_entry, lot_start
pub start_within : (l : Text) (f a : ℕ) → a ≡ fields_len f l → a ≤ length l
start_within l f a d = rw d (fields_le f l)

module _ (l : Text) (at f a : ℕ) (h : at + length l ≤ 8388608) (d : a ≡ fields_len f l) where
  pub place_wide : at + a < 18446744073709551616
  place_wide = omega (arith, start_within l f a d)

  pub place_fits : at + a < 4294967296
  place_fits = omega (arith, start_within l f a d)

  pub entry_fits : (n : ℕ) → n ≤ 99 → n * 8388608 + (at + a) < 4294967296
  entry_fits n k = omega (arith, start_within l f a d)

module _ (l u : Text) (d : u ≡ judged_of l 4) (x : Bool) (e : x ≡ sound_in 5 false 4 u) (c at : ℕ) where
  pub antigen_none : x ≡ false → option_to_list None ≡ antigen_entry c at l
  unfolding antigen_entry
  antigen_none h = rw (antigen_sound l u d x e, h)

  pub antigen_one : (n a : ℕ) → x ≡ true → n ≡ c → a ≡ fields_len 3 l → option_to_list (Some (n * 8388608 + (at + a))) ≡ antigen_entry c at l
  unfolding antigen_entry
  antigen_one n a h i j = rw (antigen_sound l u d x e, h, i, j)

pub ruleset for_antigen_entry = (rules, place_wide, place_fits, entry_fits, antigen_none, antigen_one)

module _ (l u : Text) where
  pub start_none : length u ≡ 0 → length l ≡ cond (is_empty u) (length l) (fields_len 14 l)
  start_none h = rw (empty_true u h)

  pub start_there : (a : ℕ) → (length u ≡ 0 → ⊥) → a ≡ fields_len 14 l → a ≡ cond (is_empty u) (length l) (fields_len 14 l)
  start_there a n d = rw (empty_false u n) d

pub ruleset for_lot_start = (rules, start_within, start_none, start_there)

-- lot_entry
module _ (l : Text) (at k : ℕ) (d : k ≡ record_of l) where
  pub lot_not : (k ≡ 4 → ⊥) → option_to_list None ≡ lot_entry at l
  unfolding lot_entry
  lot_not n = rw (kind_is, ← d, ne_eqb k 4 n)

  module _ (z : k ≡ 4) (u : Text) (f : u ≡ judged_of l 15) (x : Bool) (e : x ≡ sound_in 4 (is_relaxed (rec_of l)) 15 u) where
    lot_sound : is_sound 4 (rec_of l) 15 ≡ x
    lot_sound = sym (sound_in_lem 4 (rec_of l) 15) ∙ rw (text_is l 15, ← f) (sym e)

    pub lot_unsound : x ≡ false → option_to_list None ≡ lot_entry at l
    unfolding lot_entry
    lot_unsound h = rw (kind_is, ← d, eq-eqb k 4 z, lot_sound, h)

    pub lot_one : (a : ℕ) → x ≡ true → a ≡ cond (is_empty u) (length l) (fields_len 14 l) → option_to_list (Some (at + a)) ≡ lot_entry at l
    unfolding lot_entry lot_start
    lot_one a h i = rw (kind_is, ← d, eq-eqb k 4 z, lot_sound, h, text_is l 15, ← f, i)

pub ruleset for_lot_entry = (rules, lot_not, lot_unsound, lot_one)

-- entry_of
module _ (l : Text) (at what : ℕ) (r : Option ℕ) where
  pub entry_antigen : what ≡ 0 → option_to_list r ≡ antigen_entry (cond false (dose_of (rec_of l)) 0) at l → option_to_list r ≡ entry_of what at l
  unfolding entry_of
  entry_antigen h e = rw h e

  pub entry_counted : what ≡ 1 → option_to_list r ≡ antigen_entry (cond true (dose_of (rec_of l)) 0) at l → option_to_list r ≡ entry_of what at l
  unfolding entry_of
  entry_counted h e = rw h e

  pub entry_lot : (what ≡ 0 → ⊥) → (what ≡ 1 → ⊥) → option_to_list r ≡ lot_entry at l → option_to_list r ≡ entry_of what at l
  unfolding entry_of
  entry_lot m n e = rw (ne_eqb what 0 m, ne_eqb what 1 n) e

pub ruleset for_entry_of = (rules, entry_antigen, entry_counted, entry_lot)

-- gather: a number written at n
over_nil : (xs : List ℕ) → over xs [] ≡ []
over_nil [] = refl
over_nil (x ∷ xs) = refl

over_put : (x : ℕ) (xs : List ℕ) (n : ℕ) (out : List ℕ) → take n out ++ over (x ∷ xs) (drop n out) ≡ take (suc n) (set out n x) ++ over xs (drop (suc n) (set out n x))
over_put x xs zero [] = sym (over_nil xs)
over_put x xs zero (a ∷ out) = refl
over_put x xs (suc n) [] = sym (over_nil xs)
over_put x xs (suc n) (a ∷ out) = ap (λ (l : List ℕ). a ∷ l) (over_put x xs n out)

-- none of a file that is too long, or past its end
module _ (f : Text) (from to what : ℕ) where
  pub none_long : 8388608 < length f → entries_in what f from to ≡ []
  unfolding entries_in
  none_long h = rw (lt-leb _ _ h)

  pub none_past : length f < to → entries_in what f from to ≡ []
  unfolding entries_in
  none_past h = go (leb (length f) 8388608)
    where
      go : (b : Bool) → cond (b && leb to (length f)) (entries_from what from (part f from to) (lines_of (part f from to))) [] ≡ []
      go true = rw (lt-leb _ _ h)
      go false = refl

  module _ (e : entries_in what f from to ≡ []) where
    none_count : 0 ≡ length (entries_in what f from to)
    none_count = rw e

    none_written : (room : List ℕ) → room ≡ over (entries_in what f from to) room
    none_written room = rw e

  pub long_count : 8388608 < length f → 0 ≡ length (entries_in what f from to)
  long_count h = none_count (none_long h)

  pub long_written : (room : List ℕ) → 8388608 < length f → room ≡ over (entries_in what f from to) room
  long_written room h = none_written (none_long h) room

  pub past_count : length f < to → 0 ≡ length (entries_in what f from to)
  past_count h = none_count (none_past h)

  pub past_written : (room : List ℕ) → length f < to → room ≡ over (entries_in what f from to) room
  past_written room h = none_written (none_past h) room

  -- the lines up to position at of a text u are passed, and n entries are written to the front of the room
  module _ (room₀ : List ℕ) (u : Text) where
    abbrev ahead : ℕ → List ℕ
    ahead at = entries_from what at (drop at u) (lines_of (drop at u))

    pub record Gathering (room : List ℕ) (at n : ℕ) : Type 0 where
      pub size : length room ≡ length room₀
      pub few : n ≤ at
      pub long : length u ≡ to
      pub high : to ≤ 8388608
      pub count : length (entries_in what f from to) ≡ n + length (ahead at)
      pub written : over (entries_in what f from to) room₀ ≡ take n room ++ over (ahead at) (drop n room)

    module _ (h : length f ≤ 8388608) (k : to ≤ length f) (d : u ≡ part f 0 to) where
      e : u ≡ take to f
      e = d ∙ part_start f to

      all_ahead : entries_in what f from to ≡ ahead from
      unfolding entries_in
      all_ahead = rw (le-leb _ _ h, le-leb _ _ k, part_drop f from to, e)

      pub gather_start : Gathering room₀ from 0
      gather_start =
          record {
            size = refl;
            few = omega arith;
            long = ap length e ∙ length-take-le to f k;
            high = omega arith;
            count = ap length all_ahead ∙ (omega arith);
            written = ap (λ (es : List ℕ). over es room₀) all_ahead;
          }

    module _ (room : List ℕ) (at n : ℕ) (inv : Gathering room at n) where
      pub gather_count : to ≤ at → n ≡ length (entries_in what f from to)
      gather_count h =
          let e : length (ahead at) ≡ 0 = rw (lines_past u at (omega (arith, inv.long))) in
          omega (arith, inv.count)

      pub gather_end : to ≤ at → room ≡ over (entries_in what f from to) room₀
      gather_end h = sym (inv.written ∙ rw (lines_past u at (omega (arith, inv.long))) (take-append-drop n room))

      pub gather_size : length room ≡ length room₀
      gather_size = inv.size

      module _ (h : at < to) where
        pub gather_here : at < length u
        gather_here = omega (arith, inv.long)

        module _ (q : LineAt) (is : LineIs u at q) where
          pub gather_from : at ≤ q.end
          gather_from = is.from

          pub gather_in : q.end ≤ length u
          gather_in = at_in u at q is gather_here

          pub gather_falls : to - q.next < to - at
          gather_falls = omega (arith, at_past u at q is gather_here)

          pub gather_low : at + length (take (q.end - at) (drop at u)) ≤ 8388608
          gather_low =
              let i : q.end ≤ length u = gather_in in
              let l : length (take (q.end - at) (drop at u)) ≡ q.end - at = length-take-le (q.end - at) (drop at u) (omega (arith, length-drop at u)) in
              omega (arith, inv.long, inv.high, is.from)

          pub gather_room : n + 1 ≤ 8388608
          gather_room = omega (arith, inv.few, inv.high)

          module _ (r : Option ℕ) (c : option_to_list r ≡ entry_of what at (take (q.end - at) (drop at u))) where
            first : ahead at ≡ option_to_list r ++ ahead q.next
            first = rw (lines_on u at q is gather_here, ← c, at_next u at q is, drop-drop)

            pub gather_no : r ≡ None → Gathering room q.next n
            gather_no z =
                let e : ahead at ≡ ahead q.next = first ∙ rw z in
                record {
                  size = inv.size;
                  few = omega (arith, inv.few, at_past u at q is gather_here);
                  long = inv.long;
                  high = inv.high;
                  count = inv.count ∙ rw e;
                  written = inv.written ∙ rw e;
                }

            pub gather_yes : (new : List ℕ) (m : ℕ) → r ≡ Some m → new ≡ set room n m → Gathering new q.next (n + 1)
            gather_yes new m z w =
                let e : ahead at ≡ m ∷ ahead q.next = first ∙ rw z in
                let l : length (ahead at) ≡ suc (length (ahead q.next)) = ap length e in
                record {
                  size = ap length w ∙ length-set room n m ∙ inv.size;
                  few = omega (arith, inv.few, at_past u at q is gather_here);
                  long = inv.long;
                  high = inv.high;
                  count = omega (arith, inv.count);
                  written = inv.written ∙ rw (e, w, add-one n) (over_put m (ahead q.next) n room);
                }

pub ruleset for_gather = (rules, long_count, long_written, past_count, past_written, gather_start, gather_count, gather_end, gather_size, gather_here, gather_from, gather_in, gather_falls, gather_low, gather_room, gather_no, gather_yes)
