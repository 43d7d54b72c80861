-- What is asked of entries (`specs/Entries`) is what rules 12 to 14 ask of the lines.
-- Assumes nothing.
use mathlib.Core.Path.{◌≡◌, refl, sym, ap, ◌∙◌}
use mathlib.Core.Bool.{Bool, true, false, cond, ◌&&◌, and-true, and-false, or-false}
use mathlib.Core.List.{List, [], ◌∷◌}
use Prim.Native.Nat.{ℕ, ◌+◌, ◌*◌, ◌≤◌, ◌<◌}
use native.Mathlib.Omega.{arith}
use borrow.Author.Tests.{eqb-true, eqb-false}
use lib.Dec.{eqb, ltb, leb}
use lib.ListN.{length, take, drop, get_or, length-drop}
use lib.Seq.{take-length, length-take-le}
use Rattle.house.specs.Text.{Text, any, all, same, is_same}
use Rattle.house.proofs.Small.{both, clash}
use Rattle.house.proofs.OrderAlgebra.{cons_eq}
use Rattle.house.proofs.Decisions.{same_true, not_same, same_sym}
use Rattle.lines_fields.specs.Lines.{line_of, text_len, fields_of, fields_len}
use Rattle.lines_fields.specs.Marks.{judged_of}
use Rattle.lines_fields.specs.Inside.{part}
use Rattle.lines_fields.proofs.CutLaws.{part_drop}
use Rattle.lines_fields.proofs.LineLaws.{text_is, text_le}
use Rattle.lines_words.specs.Words.{place_bound, word_at, key_at}
use Rattle.lines.specs.Records.{Rec, II, IE, is_kind, rec_of, recs}
use Rattle.lines.specs.Inside.{whole}
use Rattle.rules_definitions.specs.Forms.{text, is_sound}
use Rattle.rules_definitions.specs.Rules.{dose_of, same_antigen, same_count, all_in, counts_sound}
use Rattle.rules_forms.specs.FieldLeaves.{sound_in}
use Rattle.rules_forms.proofs.FieldLaws.{text_is as judged_is}
use Rattle.rules_forms.proofs.SoundLaws.{ie_4}
use Rattle.rules_lists.specs.Among.{antigen_is, lot_is}
use Rattle.rules_lists.specs.Entries.{antigens, counted_antigens, lots, antigen_entry, lot_start, lot_entry, entry_of, entries_in}
use Rattle.rules_lists.proofs.ListNeeds.{antigen_sound}
use Rattle.rules_lists.proofs.EntryWalk.{any_append, all_true, line_from, ended_here, any_lines, all_lines, no_lines, parted, entries_are}
use Rattle.rules_lists.proofs.EntryWords.{fields_front, key_word, key_count, antigen_fields, antigen_inside, antigen_word, lot_from, lot_within, lot_inside, lot_there, lot_word, lot_shown, lot_other, line_fits, line_cut, line_stop, line_below}
use Rattle.rules_lists.proofs.EntryBetween.{between, between_is, between_past, between_low, none_after}

-- Rule 12

module _ (file : Text) (since at to p : ℕ) (t : Text) (n : length file ≤ place_bound) (a : since ≤ at) (b : at < to) (c : to ≤ length file)
    (w : whole (take at file) ≡ true) (d : t ≡ judged_of (line_of (drop at file)).text 4) (s : sound_in IE false 4 t ≡ true)
    (e : p ≡ at + fields_len 3 (line_of (drop at file)).text) where
  own_cut : (line_of (drop at file)).text ≡ take (length (line_of (drop at file)).text) (drop at file)
  unfolding text_len
  own_cut = text_is (drop at file)

  own_sound : is_sound IE (rec_of (line_of (drop at file)).text) 4 ≡ true
  own_sound = antigen_sound (line_of (drop at file)).text t d (sound_in IE false 4 t) refl ∙ s

  own_low : p < at + text_len (drop at file)
  unfolding text_len
  own_low = omega (arith, e, antigen_inside file (line_of (drop at file)).text at own_cut own_sound)

  own_key : key_at 0 file p ≡ t
  own_key =
      key_word file p (omega (arith, own_low, text_le (drop at file), length-drop at file))
      ∙ ap (word_at file) e
      ∙ antigen_word file (line_of (drop at file)).text at own_cut own_sound
      ∙ judged_is (line_of (drop at file)).text 4
      ∙ sym d

  antigen_each : (i : ℕ) → since ≤ i → i < length (take at file) → true ≡ true
      → any (between file since p t own_key) (entry_of antigens i (line_from (take at file) i)) ≡ antigen_is t (rec_of (line_from (take at file) i))
  unfolding entry_of antigen_entry antigen_is
  antigen_each i l h k = go (is_sound IE (rec_of (line_from (take at file) i)) 4) refl
    where
      j : i < at
      j = omega (arith, length-take-le at file (omega arith))

      go : (v : Bool) → is_sound IE (rec_of (line_from (take at file) i)) 4 ≡ v
          → any (between file since p t own_key) (cond v ((0 * place_bound + (i + fields_len 3 (line_from (take at file) i))) ∷ []) []) ≡ same t (text (rec_of (line_from (take at file) i)) 4)
      go true f =
          let x : 0 * place_bound + (i + fields_len 3 (line_from (take at file) i)) ≡ i + fields_len 3 (line_from (take at file) i) = omega arith in
          let y : i + fields_len 3 (line_from (take at file) i) < at = omega (arith, line_fits file at i (omega arith) j, antigen_inside file (line_from (take at file) i) i (line_cut file at i (omega arith) j) f) in
          ap (λ (m : ℕ). any (between file since p t own_key) (m ∷ [])) x
          ∙ or-false (between file since p t own_key (i + fields_len 3 (line_from (take at file) i)))
          ∙ between_is file since p t own_key (i + fields_len 3 (line_from (take at file) i)) (text (rec_of (line_from (take at file) i)) 4) (omega arith) (omega (arith, e)) (omega arith)
          (antigen_word file (line_from (take at file) i) i (line_cut file at i (omega arith) j) f)
      go false f =
          sym (not_same t (text (rec_of (line_from (take at file) i)) 4) (λ z. clash (cc (f, ie_4 (rec_of (line_from (take at file) i)), z, own_sound, ie_4 (rec_of (line_of (drop at file)).text), judged_is (line_of (drop at file)).text 4, d))))

  antigen_own : any (between file since p t own_key) (entry_of antigens at (line_from (take to file) at)) ≡ false
  unfolding entry_of antigen_entry
  antigen_own = go (is_sound IE (rec_of (line_from (take to file) at)) 4) refl
    where
      cut : line_from (take to file) at ≡ take (length (line_from (take to file) at)) (drop at file)
      cut = line_cut file to at c b

      start : (x : Text) → x ≡ take (length x) (drop at file) → is_sound IE (rec_of x) 4 ≡ true → fields_len 3 x ≡ fields_len 3 (drop at file)
      start x z f =
          ap (fields_len 3) z ∙ fields_front 3 (length x) (drop at file) (omega (arith, ap (λ (y : Text). length (fields_of y)) z, antigen_fields file x at z f))

      go : (v : Bool) → is_sound IE (rec_of (line_from (take to file) at)) 4 ≡ v
          → any (between file since p t own_key) (cond v ((0 * place_bound + (at + fields_len 3 (line_from (take to file) at))) ∷ []) []) ≡ false
      go true f =
          rw (between_past file since p t own_key (0 * place_bound + (at + fields_len 3 (line_from (take to file) at)))
          (omega (arith, e, start (line_from (take to file) at) cut f, start (line_of (drop at file)).text own_cut own_sound)))
      go false f = refl

  pub antigens_before : any (λ (f : ℕ). leb since f && (ltb f p && same (key_at 0 file f) (key_at 0 file p))) (entries_in antigens file since to)
      ≡ any (antigen_is t) (recs (part file since at))
  antigens_before =
      rw (
        entries_are file antigens since to n c,
        parted file at to antigens (omega arith) c w since a,
        any_append,
        none_after file since p t own_key antigens at to b c (omega (arith, own_low)) antigen_own,
        or-false,
        part_drop file since at,
      )
      (any_lines (take at file) antigens (between file since p t own_key) (antigen_is t) (λ (r : Rec). true) since antigen_each since (omega arith) (all_true (recs (drop since (take at file)))))

-- Rule 14

module _ (file : Text) (b at p : ℕ) (t : Text) (n : length file ≤ place_bound) (a : b ≤ at) (c : at < length file)
    (v : whole (take b file) ≡ true) (w : whole (take at file) ≡ true) (d : t ≡ judged_of (line_of (drop at file)).text 15)
    (g : 15 ≤ length (fields_of (line_of (drop at file)).text)) (s : sound_in II true 15 t ≡ true)
    (e : p ≡ at + fields_len 14 (line_of (drop at file)).text) where
  lot_cut : (line_of (drop at file)).text ≡ take (length (line_of (drop at file)).text) (drop at file)
  unfolding text_len
  lot_cut = text_is (drop at file)

  lot_low : p < at + text_len (drop at file)
  unfolding text_len
  lot_low = omega (arith, e, lot_inside (line_of (drop at file)).text g)

  lot_key : key_at 0 file p ≡ t
  lot_key =
      let i : text (rec_of (line_of (drop at file)).text) 15 ≡ t = judged_is (line_of (drop at file)).text 15 ∙ sym d in
      key_word file p (omega (arith, lot_low, text_le (drop at file), length-drop at file))
      ∙ ap (word_at file) e
      ∙ lot_there file (line_of (drop at file)).text at lot_cut g (rw i (lot_shown t s))
      ∙ i

  -- a lot of a line with its LF stands before the next line
  module _ (to i : ℕ) (k : to ≤ length file) (h : i < length (take to file)) (f : (line_of (drop i (take to file))).ended ≡ true) where
    lot_in : i < to
    lot_in = omega (arith, length-take-le to file k)

    lot_below : i + lot_start (line_from (take to file) i) < to
    lot_below = omega (arith, lot_within (line_from (take to file) i), line_below file to i k lot_in f)

    lot_at : is_sound II (rec_of (line_from (take to file) i)) 15 ≡ true
        → word_at file (i + lot_start (line_from (take to file) i)) ≡ text (rec_of (line_from (take to file) i)) 15
    lot_at = lot_word file (line_from (take to file) i) i (line_cut file to i k lot_in) (line_stop file to i k lot_in f)

  lot_each : (i : ℕ) → b ≤ i → i < length (take at file) → true ≡ true
      → any (between file b p t lot_key) (entry_of lots i (line_from (take at file) i)) ≡ lot_is t (rec_of (line_from (take at file) i))
  unfolding entry_of lot_entry lot_is
  lot_each i l h k = go (is_kind II (rec_of (line_from (take at file) i))) (is_sound II (rec_of (line_from (take at file) i)) 15) refl
    where
      f : (line_of (drop i (take at file))).ended ≡ true
      f = ended_here (take at file) w i h

      go : (x y : Bool) → is_sound II (rec_of (line_from (take at file) i)) 15 ≡ y
          → any (between file b p t lot_key) (cond (x && y) ((i + lot_start (line_from (take at file) i)) ∷ []) [])
          ≡ (x && (y && same t (text (rec_of (line_from (take at file) i)) 15)))
      go true true z =
          let y : i + lot_start (line_from (take at file) i) < at = lot_below at i (omega arith) h f in
          or-false (between file b p t lot_key (i + lot_start (line_from (take at file) i)))
          ∙ between_is file b p t lot_key (i + lot_start (line_from (take at file) i)) (text (rec_of (line_from (take at file) i)) 15) (omega arith) (omega (arith, e)) (omega arith)
          (lot_at at i (omega arith) h f z)
      go true false z = refl
      go false y z = refl

  lot_early : (i : ℕ) → 0 ≤ i → i < length (take b file) → any (between file b p t lot_key) (entry_of lots i (line_from (take b file) i)) ≡ false
  unfolding entry_of lot_entry
  lot_early i l h = go (is_kind II (rec_of (line_from (take b file) i)) && is_sound II (rec_of (line_from (take b file) i)) 15)
    where
      go : (x : Bool) → any (between file b p t lot_key) (cond x ((i + lot_start (line_from (take b file) i)) ∷ []) []) ≡ false
      go true = rw (between_low file b p t lot_key (i + lot_start (line_from (take b file) i)) (lot_below b i (omega arith) h (ended_here (take b file) v i h)))
      go false = refl

  lot_own : any (between file b p t lot_key) (entry_of lots at (line_from (take (length file) file) at)) ≡ false
  unfolding entry_of lot_entry
  lot_own = rw (take-length file) (go (is_kind II (rec_of (line_from file at)) && is_sound II (rec_of (line_from file at)) 15))
    where
      go : (x : Bool) → any (between file b p t lot_key) (cond x ((at + lot_start (line_from file at)) ∷ []) []) ≡ false
      go true = rw (between_past file b p t lot_key (at + lot_start (line_from file at)) (omega (arith, e, lot_from (line_from file at))))
      go false = refl

  pub lots_before : any (λ (f : ℕ). leb b f && (ltb f p && same (key_at 0 file f) (key_at 0 file p))) (entries_in lots file 0 (length file))
      ≡ any (lot_is t) (recs (part file b at))
  lots_before =
      rw (
        entries_are file lots 0 (length file) n (omega arith),
        parted file b (length file) lots (omega arith) (omega arith) v 0 (omega arith),
        parted file at (length file) lots (omega arith) (omega arith) w b a,
        any_append,
        any_append,
        no_lines (take b file) lots (between file b p t lot_key) 0 lot_early 0 (omega arith),
        none_after file b p t lot_key lots at (length file) c (omega arith) (omega (arith, lot_low)) lot_own,
        or-false,
        part_drop file b at,
      )
      (any_lines (take at file) lots (between file b p t lot_key) (lot_is t) (λ (r : Rec). true) b lot_each b (omega arith) (all_true (recs (drop b (take at file)))))

-- no lot is a text that could not be one
pub no_lot : (t : Text) (ps : List Rec) → sound_in II true 15 t ≡ false → any (lot_is t) ps ≡ false
unfolding lot_is
no_lot t [] h = refl
no_lot t (p ∷ ps) h = rw (go (same t (text p 15)) refl, no_lot t ps h)
  where
    go : (b : Bool) → same t (text p 15) ≡ b → (is_kind II p && (is_sound II p 15 && same t (text p 15))) ≡ false
    go true e = rw (lot_other t p h (same_true t (text p 15) e)) (and-false (is_kind II p))
    go false e = rw (e, and-false (is_sound II p 15)) (and-false (is_kind II p))

-- Rule 13

same_first : (x y : ℕ) (s t : Text) → same (x ∷ s) (y ∷ t) ≡ (same t s && eqb y x)
unfolding same
same_first x y s t = go (eqb y x) refl
  where
    go : (b : Bool) → eqb y x ≡ b → same (x ∷ s) (y ∷ t) ≡ (same t s && b)
    go true e = ap is_same (cons_eq x y s t (sym (eqb-true y x e))) ∙ same_sym s t ∙ sym (and-true (same t s))
    go false e = not_same (x ∷ s) (y ∷ t) (λ z. eqb-false y x e (sym (ap (λ (l : Text). get_or l 0 0) z))) ∙ sym (and-false (same t s))

-- an IE whose antigen and count are sound, in the lines of the file up to a position: one entry, and its key
module _ (file : Text) (n : length file ≤ place_bound) where
  abbrev count_key : Rec → Text
  count_key r = dose_of r ∷ text r 4

  module _ (to i : ℕ) (k : to ≤ length file) (h : i < length (take to file)) (s : is_sound IE (rec_of (line_from (take to file) i)) 4 ≡ true) where
    abbrev entry : ℕ
    entry = dose_of (rec_of (line_from (take to file) i)) * place_bound + (i + fields_len 3 (line_from (take to file) i))

    one_entry : entry_of counted_antigens i (line_from (take to file) i) ≡ entry ∷ []
    unfolding entry_of antigen_entry
    one_entry = rw s

    count_in_lem : i < to
    count_in_lem = omega (arith, length-take-le to file k)

    entry_key : key_at 1 file entry ≡ count_key (rec_of (line_from (take to file) i))
    entry_key =
        let c : line_from (take to file) i ≡ take (length (line_from (take to file) i)) (drop i file) = line_cut file to i k count_in_lem in
        key_count file (dose_of (rec_of (line_from (take to file) i))) (i + fields_len 3 (line_from (take to file) i))
        (omega (arith, line_fits file to i k count_in_lem, antigen_inside file (line_from (take to file) i) i c s))
        ∙ ap (λ (x : Text). dose_of (rec_of (line_from (take to file) i)) ∷ x) (antigen_word file (line_from (take to file) i) i c s)

  abbrev sound_both : Rec → Bool
  sound_both l = is_sound IE l 4 && is_sound IE l 5

  -- the lines of one part, asked for the key of a line
  module _ (c d : ℕ) (k : d ≤ length file) (l : Rec) (e : ℕ) (w : key_at 1 file e ≡ count_key l) where
    abbrev has_key : ℕ → Bool
    has_key f = same (key_at 1 file f) (key_at 1 file e)

    count_each : (i : ℕ) → 0 ≤ i → i < length (take d file) → sound_both (rec_of (line_from (take d file) i)) ≡ true
        → any has_key (entry_of counted_antigens i (line_from (take d file) i)) ≡ same_count l (rec_of (line_from (take d file) i))
    unfolding same_count same_antigen
    count_each i z h s =
        let s4 : is_sound IE (rec_of (line_from (take d file) i)) 4 ≡ true = (both (is_sound IE (rec_of (line_from (take d file) i)) 4) _ s).0 in
        ap (any has_key) (one_entry d i k h s4)
        ∙ or-false (has_key (entry d i k h s4))
        ∙ ap (λ (x : Text). same x (key_at 1 file e)) (entry_key d i k h s4)
        ∙ ap (same (count_key (rec_of (line_from (take d file) i)))) w
        ∙ same_first (dose_of (rec_of (line_from (take d file) i))) (dose_of l) (text (rec_of (line_from (take d file) i)) 4) (text l 4)

    any_count : counts_sound (recs (part file c d)) ≡ true → any has_key (entries_in counted_antigens file c d) ≡ any (same_count l) (recs (part file c d))
    unfolding counts_sound
    any_count s =
        rw (entries_are file counted_antigens c d n k, part_drop file c d)
        (any_lines (take d file) counted_antigens has_key (same_count l) sound_both 0 count_each c (omega arith) (rw (part_drop file c d) at s))

  module _ (a b c d : ℕ) (g : b ≤ length file) (k : d ≤ length file) (s : counts_sound (recs (part file a b)) ≡ true) (r : counts_sound (recs (part file c d)) ≡ true) where
    abbrev is_among : ℕ → Bool
    is_among e = any (λ (f : ℕ). same (key_at 1 file f) (key_at 1 file e)) (entries_in counted_antigens file c d)

    among_each : (i : ℕ) → 0 ≤ i → i < length (take b file) → sound_both (rec_of (line_from (take b file) i)) ≡ true
        → all is_among (entry_of counted_antigens i (line_from (take b file) i)) ≡ any (same_count (rec_of (line_from (take b file) i))) (recs (part file c d))
    among_each i z h x =
        let s4 : is_sound IE (rec_of (line_from (take b file) i)) 4 ≡ true = (both (is_sound IE (rec_of (line_from (take b file) i)) 4) _ x).0 in
        ap (all is_among) (one_entry b i g h s4)
        ∙ and-true (is_among (entry b i g h s4))
        ∙ any_count c d k (rec_of (line_from (take b file) i)) (entry b i g h s4) (entry_key b i g h s4) r

    pub counts_among : all (λ (e : ℕ). any (λ (f : ℕ). same (key_at 1 file f) (key_at 1 file e)) (entries_in counted_antigens file c d)) (entries_in counted_antigens file a b)
        ≡ all_in (recs (part file a b)) (recs (part file c d))
    unfolding all_in counts_sound
    counts_among =
        ap (all is_among) (entries_are file counted_antigens a b n g)
        ∙ all_lines (take b file) counted_antigens is_among (λ (l : Rec). any (same_count l) (recs (part file c d))) sound_both 0 among_each a (omega arith) (rw (part_drop file a b) at s)
        ∙ ap (λ (x : Text). all (λ (l : Rec). any (same_count l) (recs (part file c d))) (recs x)) (sym (part_drop file a b))
