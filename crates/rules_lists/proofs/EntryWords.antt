-- The word at the place of an antigen or a lot is its text.
-- Assumes nothing.
use mathlib.Core.Path.{◌≡◌, refl, sym, ap, ◌∙◌}
use mathlib.Core.Bool.{Bool, true, false, cond, ◌||◌}
use mathlib.Core.List.{List, [], ◌∷◌, ◌++◌}
use Prim.Native.Nat.{ℕ, zero, suc, ◌+◌, ◌-◌, ◌*◌, ◌/◌, ◌%◌, ◌≤◌, ◌<◌}
use native.Mathlib.Nat.{mod-eq_of_lt, mul-add-mod_self_right, div-eq_of_lt-le}
use native.Mathlib.Omega.{arith}
use borrow.Author.Tests.{eq-eqb, eqb-true, ltb-true, ltb-false, leb-true, le-leb}
use lib.Dec.{eqb, ltb, leb}
use lib.ListN.{length, get_or, take, drop, length-drop, take-append-drop, get_or-eq_default}
use lib.Seq.{drop-drop, drop-append-le, take-take, length-take-le}
use Rattle.house.specs.Text.{Text, all, front, is_empty, within, is_digit, is_letter, is_letter_or_digit, is_graphic, same, order_of}
use Rattle.house.proofs.Small.{both, clash}
use Rattle.lines_fields.specs.Lines.{LF, CR, pipe, ending_of, line_of, text_len, line_len, lengthen, fields_of, fields_len}
use Rattle.lines_fields.specs.Marks.{judged_text}
use Rattle.lines_fields.proofs.CutLaws.{part_drop}
use Rattle.lines_fields.proofs.LineLaws.{text_is, ended_is, text_le, line_le}
use Rattle.lines_fields.proofs.FieldLaws.{lengthen_length, start_zero, fields_after, fields_le, fields_few, field_first}
use Rattle.lines_words.specs.Words.{place_bound, place_in, count_in, is_word_byte, word_at, key_at}
use Rattle.lines.specs.Records.{Rec, rec_of}
use Rattle.rules_definitions.specs.Forms.{field_in, text, is_code, lot_byte, is_lot, is_relaxed, relaxed_by, is_sound}
use Rattle.rules_forms.specs.FieldLeaves.{sound_in}
use Rattle.rules_forms.proofs.ClassLaws.{run_parts, run_least}
use Rattle.rules_forms.proofs.FieldLaws.{empty_true, sound_in_lem}
use Rattle.rules_forms.proofs.SoundLaws.{ie_4, ii_15}
use Rattle.rules_lists.specs.Entries.{lot_start}

-- Words

word_byte : (b : ℕ) → is_graphic b ≡ true → eqb b pipe ≡ false → is_word_byte b ≡ true
unfolding is_word_byte
word_byte b g e = rw (g, e)

pipe_stops : is_word_byte pipe ≡ false
unfolding is_word_byte is_graphic
pipe_stops = refl

lf_stops : is_word_byte LF ≡ false
unfolding is_word_byte is_graphic
lf_stops = refl

cr_stops : is_word_byte CR ≡ false
unfolding is_word_byte is_graphic
cr_stops = refl

-- at the start of a field whose bytes show
first_word : (v z : Text) → 0 < length (fields_of v) → all is_graphic (get_or (fields_of v) 0 []) ≡ true → front is_word_byte (v ++ z) ≡ get_or (fields_of v) 0 []
unfolding fields_of lengthen
first_word [] z h g = absurd (omega arith)
first_word (b ∷ v) z h g = go (eqb b pipe) refl (fields_of v) (first_word v z) h g
  where
    go : (p : Bool) → eqb b pipe ≡ p → (fs : List Text) → (0 < length fs → all is_graphic (get_or fs 0 []) ≡ true → front is_word_byte (v ++ z) ≡ get_or fs 0 [])
        → 0 < length (cond p ([] ∷ fs) (lengthen b fs))
        → all is_graphic (get_or (cond p ([] ∷ fs) (lengthen b fs)) 0 []) ≡ true
        → front is_word_byte (b ∷ (v ++ z)) ≡ get_or (cond p ([] ∷ fs) (lengthen b fs)) 0 []
    go true e fs rec h g = rw (eqb-true b pipe e, pipe_stops)
    go false e [] rec h g = absurd (omega arith)
    go false e (f ∷ fs) rec h g =
        let p = both (is_graphic b) (all is_graphic f) g in
        rw (word_byte b p.0 e, rec (omega arith) p.1)

-- a text of the file at position a, from its byte m on
module _ (s t : Text) (a : ℕ) (e : t ≡ take (length t) (drop a s)) where
  from_there : (m : ℕ) → m ≤ length t → drop (a + m) s ≡ drop m t ++ drop (length t) (drop a s)
  from_there m h =
      sym (drop-drop m a s)
      ∙ ap (drop m) (sym (take-append-drop (length t) (drop a s)) ∙ ap (λ (x : Text). x ++ drop (length t) (drop a s)) (sym e))
      ∙ drop-append-le m t (drop (length t) (drop a s)) h

  word_there : (k : ℕ) → k < length (fields_of t) → all is_graphic (get_or (fields_of t) k []) ≡ true → word_at s (a + fields_len k t) ≡ get_or (fields_of t) k []
  unfolding word_at
  word_there k h g =
      ap (front is_word_byte) (from_there (fields_len k t) (fields_le k t))
      ∙ first_word (drop (fields_len k t) t) (drop (length t) (drop a s)) (omega (arith, ap length (fields_after k t), length-drop k (fields_of t))) (rw (← field_first k t) g)
      ∙ sym (field_first k t)

start_inside : (t : Text) (k : ℕ) → k < length (fields_of t) → fields_len k t < length t
start_inside t k h =
    omega (arith, fields_few (drop (fields_len k t) t), length-drop (fields_len k t) t, ap length (fields_after k t), length-drop k (fields_of t))

field_there_lem : (t : Text) (k : ℕ) → (length (get_or (fields_of t) k []) ≡ 0 → ⊥) → k < length (fields_of t)
field_there_lem t k n = go (ltb k (length (fields_of t))) refl
  where
    go : (b : Bool) → ltb k (length (fields_of t)) ≡ b → k < length (fields_of t)
    go true e = ltb-true _ _ e
    go false e = absurd (n (ap length (get_or-eq_default (fields_of t) [] (ltb-false _ _ e))))

text_field : (t : Text) (k : ℕ) → text (rec_of t) (suc k) ≡ get_or (fields_of t) k []
unfolding rec_of field_in judged_text
text_field t k = refl

-- where a field starts is decided by what stands up to there
pub fields_front : (k n : ℕ) (s : Text) → k ≤ length (fields_of (take n s)) → fields_len k (take n s) ≡ fields_len k s
unfolding fields_of fields_len
fields_front zero n s h = start_zero (take n s) ∙ sym (start_zero s)
fields_front (suc k) zero s h = absurd (omega arith)
fields_front (suc k) (suc n) [] h = refl
fields_front (suc k) (suc n) (b ∷ s) h = go (eqb b pipe) (fields_front k n s) (fields_front (suc k) n s) h
  where
    go : (p : Bool) → (k ≤ length (fields_of (take n s)) → fields_len k (take n s) ≡ fields_len k s) → (suc k ≤ length (fields_of (take n s)) → fields_len (suc k) (take n s) ≡ fields_len (suc k) s)
        → suc k ≤ length (cond p ([] ∷ fields_of (take n s)) (lengthen b (fields_of (take n s))))
        → suc (cond p (fields_len k (take n s)) (fields_len (suc k) (take n s))) ≡ suc (cond p (fields_len k s) (fields_len (suc k) s))
    go true r q i = ap suc (r (omega arith))
    go false r q i = ap suc (q (omega (arith, lengthen_length b (fields_of (take n s)))))

-- at a line's ending
ending_word : (z y : Text) → (ending_of z ≡ 0 → ⊥) → front is_word_byte (z ++ y) ≡ []
unfolding ending_of
ending_word [] y n = absurd (n refl)
ending_word (b ∷ z) y n = go (eqb b LF) (eqb b CR) refl refl
  where
    go : (p q : Bool) → eqb b LF ≡ p → eqb b CR ≡ q → front is_word_byte (b ∷ (z ++ y)) ≡ []
    go true q e f = rw (eqb-true b LF e, lf_stops)
    go false true e f = rw (eqb-true b CR f, cr_stops)
    go false false e f = absurd (n (simp (e, f)))

-- Keys

pub key_word : (file : Text) (p : ℕ) → p < place_bound → key_at 0 file p ≡ word_at file p
unfolding key_at place_in
key_word file p h = ap (word_at file) (mod-eq_of_lt h)

pub key_count : (file : Text) (c x : ℕ) → x < place_bound → key_at 1 file (c * place_bound + x) ≡ c ∷ word_at file x
unfolding key_at place_in count_in
key_count file c x h =
    let m : (c * place_bound + x) % place_bound ≡ x = mul-add-mod_self_right c place_bound x ∙ mod-eq_of_lt h in
    let d : (c * place_bound + x) / place_bound ≡ c = div-eq_of_lt-le place_bound (omega arith) (omega arith) in
    rw (m, d)

-- Antigens

module _ (file t : Text) (a : ℕ) (e : t ≡ take (length t) (drop a file)) (s : is_sound 5 (rec_of t) 4 ≡ true) where
  antigen_code : is_code (get_or (fields_of t) 3 []) ≡ true
  antigen_code = rw (← text_field t 3) (sym (ie_4 (rec_of t)) ∙ s)

  antigen_there : 3 < length (fields_of t)
  unfolding is_code
  antigen_there = field_there_lem t 3 (λ z. omega (arith, run_least (get_or (fields_of t) 3 []) 1 20 is_graphic antigen_code))

  pub antigen_fields : 3 ≤ length (fields_of t)
  antigen_fields = omega (arith, antigen_there)

  pub antigen_inside : fields_len 3 t < length t
  antigen_inside = start_inside t 3 antigen_there

  pub antigen_word : word_at file (a + fields_len 3 t) ≡ text (rec_of t) 4
  unfolding is_code
  antigen_word =
      word_there file t a e 3 antigen_there (run_parts (get_or (fields_of t) 3 []) 1 20 is_graphic antigen_code).1 ∙ sym (text_field t 3)

-- Lots

range_shows : (lo hi b : ℕ) → 33 ≤ lo → hi ≤ 126 → within lo hi b ≡ true → is_graphic b ≡ true
unfolding is_graphic
range_shows lo hi b l h w =
    let p = both (leb lo b) (leb b hi) w in
    let x : lo ≤ b = leb-true _ _ p.0 in
    let y : b ≤ hi = leb-true _ _ p.1 in
    let i : 33 ≤ b = omega arith in
    let j : b ≤ 126 = omega arith in
    rw (le-leb 33 b i, le-leb b 126 j)

dash_shows : is_graphic 45 ≡ true
unfolding is_graphic
dash_shows = refl

or_shows : (x y : Bool) (b : ℕ) → (x ≡ true → is_graphic b ≡ true) → (y ≡ true → is_graphic b ≡ true) → (x || y) ≡ true → is_graphic b ≡ true
or_shows true y b f g h = f refl
or_shows false y b f g h = g h

lot_shows : (b : ℕ) → lot_byte b ≡ true → is_graphic b ≡ true
unfolding lot_byte is_letter_or_digit is_letter is_digit
lot_shows b =
    or_shows ((within 65 90 b || within 97 122 b) || within 48 57 b) (eqb b 45) b
    (or_shows (within 65 90 b || within 97 122 b) (within 48 57 b) b
    (or_shows (within 65 90 b) (within 97 122 b) b (range_shows 65 90 b (omega arith) (omega arith)) (range_shows 97 122 b (omega arith) (omega arith)))
    (range_shows 48 57 b (omega arith) (omega arith)))
    (λ e. rw (eqb-true b 45 e) dash_shows)

lots_show : (t : Text) → all lot_byte t ≡ true → all is_graphic t ≡ true
lots_show [] h = refl
lots_show (b ∷ t) h = let p = both (lot_byte b) (all lot_byte t) h in rw (lot_shows b p.0, lots_show t p.1)

lot_graphic : (t : Text) → is_lot t ≡ true → all is_graphic t ≡ true
unfolding is_lot
lot_graphic t h = lots_show t (run_parts t 1 20 lot_byte h).1

is_nothing : (t : Text) → is_empty t ≡ true → t ≡ []
is_nothing [] h = refl
is_nothing (b ∷ t) h = clash (cc)

start_of : (t : Text) (b : Bool) → is_empty (text (rec_of t) 15) ≡ b → lot_start t ≡ cond b (length t) (fields_len 14 t)
unfolding lot_start
start_of t b h = rw h

pub lot_from : (t : Text) → fields_len 14 t ≤ lot_start t
lot_from t = go (is_empty (text (rec_of t) 15)) refl
  where
    go : (b : Bool) → is_empty (text (rec_of t) 15) ≡ b → fields_len 14 t ≤ lot_start t
    go true h = rw (start_of t true h) (fields_le 14 t)
    go false h = rw (start_of t false h) (omega arith)

pub lot_within : (t : Text) → lot_start t ≤ length t
lot_within t = go (is_empty (text (rec_of t) 15)) refl
  where
    go : (b : Bool) → is_empty (text (rec_of t) 15) ≡ b → lot_start t ≤ length t
    go true h = rw (start_of t true h) (omega arith)
    go false h = rw (start_of t false h) (fields_le 14 t)

pub lot_inside : (t : Text) → 15 ≤ length (fields_of t) → fields_len 14 t < length t
lot_inside t h = start_inside t 14 (omega arith)

module _ (file t : Text) (a : ℕ) (e : t ≡ take (length t) (drop a file)) where
  pub lot_there : 15 ≤ length (fields_of t) → all is_graphic (text (rec_of t) 15) ≡ true → word_at file (a + fields_len 14 t) ≡ text (rec_of t) 15
  lot_there h g = word_there file t a e 14 (omega arith) (rw (← text_field t 14) g) ∙ sym (text_field t 14)

  pub lot_word : word_at file (a + length t) ≡ [] → is_sound 4 (rec_of t) 15 ≡ true → word_at file (a + lot_start t) ≡ text (rec_of t) 15
  lot_word n s = go (is_empty (text (rec_of t) 15)) refl (sym (ii_15 (rec_of t)) ∙ s)
    where
      go : (b : Bool) → is_empty (text (rec_of t) 15) ≡ b → cond b (is_relaxed (rec_of t)) (is_lot (text (rec_of t) 15)) ≡ true → word_at file (a + lot_start t) ≡ text (rec_of t) 15
      go true h k = rw (start_of t true h) (n ∙ sym (is_nothing (text (rec_of t) 15) h))
      go false h k =
          rw (start_of t false h)
          (lot_there (field_there_lem t 14 (λ z. clash (cc (h, empty_true (get_or (fields_of t) 14 []) z, text_field t 14)))) (lot_graphic (text (rec_of t) 15) k))

-- a text as the lot of a relaxed event
relaxed : Text → Rec
relaxed t = record { kind = 4; fields = [] ∷ [] ∷ [] ∷ [] ∷ (72 ∷ []) ∷ [] ∷ [] ∷ [] ∷ [] ∷ [] ∷ [] ∷ [] ∷ [] ∷ [] ∷ t ∷ [] }

lot_form : (t : Text) → sound_in 4 true 15 t ≡ cond (is_empty t) true (is_lot t)
unfolding relaxed relaxed_by field_in judged_text same order_of
lot_form t = sound_in_lem 4 (relaxed t) 15 ∙ ii_15 (relaxed t)

pub lot_shown : (t : Text) → sound_in 4 true 15 t ≡ true → all is_graphic t ≡ true
lot_shown [] h = refl
lot_shown (b ∷ t) h = lot_graphic (b ∷ t) (sym (lot_form (b ∷ t)) ∙ h)

pub lot_other : (t : Text) (p : Rec) → sound_in 4 true 15 t ≡ false → t ≡ text p 15 → is_sound 4 p 15 ≡ false
lot_other t p h e = ii_15 p ∙ rw (← e) (go (is_empty t) (is_lot t) (sym (lot_form t) ∙ h))
  where
    go : (b x : Bool) → cond b true x ≡ false → cond b (is_relaxed p) x ≡ false
    go true x k = clash (cc)
    go false x k = k

-- Lines of the front of a file

module _ (file : Text) (to i : ℕ) (k : to ≤ length file) (h : i < to) where
  pub line_fits : i + length (line_of (drop i (take to file))).text ≤ to
  unfolding text_len
  line_fits = omega (arith, text_le (drop i (take to file)), length-drop i (take to file), length-take-le to file k)

  pub line_cut : (line_of (drop i (take to file))).text ≡ take (length (line_of (drop i (take to file))).text) (drop i file)
  unfolding text_len
  line_cut =
      text_is (drop i (take to file))
      ∙ ap (take (length (line_of (drop i (take to file))).text)) (sym (part_drop file i to))
      ∙ take-take (length (line_of (drop i (take to file))).text) (to - i) (drop i file) (omega (arith, line_fits))

  module _ (e : (line_of (drop i (take to file))).ended ≡ true) where
    not_none : ending_of (drop (text_len (drop i (take to file))) (drop i (take to file))) ≡ 0 → ⊥
    not_none z = clash (cc (e, ended_is (drop i (take to file)), eq-eqb _ _ z))

    -- its ending stands after it, where no word starts
    pub line_stop : word_at file (i + length (line_of (drop i (take to file))).text) ≡ []
    unfolding word_at text_len
    line_stop =
        ap (front is_word_byte) (sym (drop-drop (length (line_of (drop i (take to file))).text) i file)
        ∙ ap (λ (s : Text). drop (length (line_of (drop i (take to file))).text) (drop i s)) (sym (take-append-drop to file))
        ∙ ap (drop (length (line_of (drop i (take to file))).text)) (drop-append-le i (take to file) (drop to file) (omega (arith, length-take-le to file k)))
        ∙ drop-append-le (length (line_of (drop i (take to file))).text) (drop i (take to file)) (drop to file) (text_le (drop i (take to file))))
        ∙ ending_word (drop (length (line_of (drop i (take to file))).text) (drop i (take to file))) (drop to file) not_none

    pub line_below : i + length (line_of (drop i (take to file))).text < to
    unfolding line_len text_len
    line_below =
        go (ending_of (drop (text_len (drop i (take to file))) (drop i (take to file)))) refl
      where
        go : (n : ℕ) → ending_of (drop (text_len (drop i (take to file))) (drop i (take to file))) ≡ n → i + length (line_of (drop i (take to file))).text < to
        go zero z = absurd (not_none z)
        go (suc n) z = omega (arith, z, line_le (drop i (take to file)), length-drop i (take to file), length-take-le to file k)
