-- Marks: what they say of a line's fields, and what is known of any text as judged.
-- Assumes nothing.
use mathlib.Core.Path.{◌≡◌, refl, sym, ap, ◌∙◌}
use mathlib.Core.Bool.{Bool, true, false, cond, ◌&&◌}
use mathlib.Core.List.{List, [], ◌∷◌}
use Prim.Native.Nat.{ℕ, zero, suc, ◌+◌, ◌-◌, ◌≤◌, ◌<◌}
use native.Mathlib.Nat.{zero-add, add-zero}
use native.Mathlib.Omega.{arith}
use borrow.Author.Tests.{le-leb, lt-leb, lt-ltb, le-ltb, leb-true, ltb-true, ltb-false}
use lib.Dec.{eqb, ltb, leb}
use lib.ListN.{length, get_or, drop, length-drop, get_or-eq_default}
use Rattle.house.specs.Text.{Text, digits}
use Rattle.house.proofs.Small.{both}
use Rattle.lines_fields.specs.declared.Span.{Span}
use Rattle.lines_fields.specs.Lines.{pipe, line_of, text_len, lengthen, fields_of, field_of, fields_len}
use Rattle.lines_fields.specs.Inside.{part}
use Rattle.lines_fields.specs.Marks.{judged_text, judged_of, marks_from, marks_of, marks_at, is_marked, marked_field, judged_in, span, judged_span}
use Rattle.lines_fields.proofs.LineLaws.{text_is, text_le}
use Rattle.lines_fields.proofs.FieldLaws.{lengthen_length, fields_le}
use Rattle.lines_fields.proofs.PositionLaws.{field_step, cut_there, field_on}

-- THE TEXT AS JUDGED: of no bytes none is judged, no more is judged than is there, and of digits all

pub judged_nil : judged_text [] ≡ []
unfolding judged_text
judged_nil = refl

pub judged_within : (t : Text) → length (judged_text t) ≤ length t
unfolding judged_text
judged_within t = omega arith

-- digits are judged as they stand
pub judged_digits : (t : Text) → digits t ≡ true → judged_text t ≡ t
unfolding judged_text
judged_digits t d = refl

-- a field that is not there
pub judged_none : (t : Text) (f : ℕ) → field_of t f ≡ [] → judged_of t f ≡ []
unfolding judged_of
judged_none t f e = rw e judged_nil

-- it is decided by the field alone
pub judged_same : (t u : Text) (f g : ℕ) → field_of t f ≡ field_of u g → judged_of t f ≡ judged_of u g
unfolding judged_of
judged_same t u f g e = ap judged_text e

-- from where the field after k fields of a line starts, the line goes on with the fields that follow these
pub judged_on : (s : Text) (at k a : ℕ) → a ≡ at + fields_len k (line_of (drop at s)).text
    → (f : ℕ) → judged_of (line_of (drop a s)).text (suc f) ≡ judged_of (line_of (drop at s)).text (suc (k + f))
judged_on s at k a p f = judged_same _ _ _ _ (field_on s at k a p f)

-- MARKS, one by one

module _ (at : ℕ) (t : Text) where
  from_length : (f n : ℕ) → length (marks_from f n at t) ≡ suc n
  from_length f zero = refl
  from_length f (suc n) = ap suc (from_length (suc f) n)

  from_at : (f n j : ℕ) → j < n → get_or (marks_from f n at t) j 0 ≡ at + fields_len (f + j) t
  from_at f zero j h = absurd (omega arith)
  from_at f (suc n) zero h = rw add-zero
  from_at f (suc n) (suc j) h = let e : suc f + j ≡ f + suc j = omega arith in from_at (suc f) n j (omega arith) ∙ rw e

  from_last : (f n : ℕ) → get_or (marks_from f n at t) n 0 ≡ length (fields_of t)
  from_last f zero = refl
  from_last f (suc n) = from_last (suc f) n

  pub marks_length : length (marks_of at t) ≡ 30
  unfolding marks_of
  marks_length = from_length 0 29

  pub mark_at : (f : ℕ) → f ≤ 28 → get_or (marks_of at t) f 0 ≡ at + fields_len f t
  unfolding marks_of
  mark_at f h = from_at 0 29 f (omega arith) ∙ rw zero-add

  pub mark_count_lem : get_or (marks_of at t) 29 0 ≡ length (fields_of t)
  unfolding marks_of
  mark_count_lem = from_last 0 29

-- after the last field the text is at its end
pub fields_past : (t : Text) (k : ℕ) → length (fields_of t) < k → fields_len k t ≡ length t
unfolding fields_of fields_len
fields_past [] k h = refl
fields_past (b ∷ t) zero h = absurd (omega arith)
fields_past (b ∷ t) (suc k) h = go (eqb b pipe) (fields_past t k) (fields_past t (suc k)) h
  where
    go : (v : Bool) → (length (fields_of t) < k → fields_len k t ≡ length t) → (length (fields_of t) < suc k → fields_len (suc k) t ≡ length t)
        → length (cond v ([] ∷ fields_of t) (lengthen b (fields_of t))) < suc k → suc (cond v (fields_len k t) (fields_len (suc k) t)) ≡ suc (length t)
    go true p q i = ap suc (p (omega arith))
    go false p q i = ap suc (q (omega (arith, lengthen_length b (fields_of t))))

-- FIELDS BY MARKS

field_none : (t : Text) (f : ℕ) → length (fields_of t) < f → [] ≡ field_of t f
unfolding field_of
field_none t zero l = refl
field_none t (suc k) l = sym (get_or-eq_default (fields_of t) [] (omega arith))

field_zero : (t : Text) → [] ≡ field_of t 0
unfolding field_of
field_zero t = refl

-- of the line at position at of file s
module _ (s : Text) (at : ℕ) (a : at ≤ length s) where
  abbrev t : Text
  t = (line_of (drop at s)).text

  abbrev m : List ℕ
  m = marks_of at (line_of (drop at s)).text

  -- a field that is there, and one of those that are marked
  module _ (k : ℕ) (h : k < length (fields_of t)) (l : k < 28) where
    abbrev len : ℕ
    len = length (get_or (fields_of t) k [])

    first : get_or m k 0 ≡ at + fields_len k t
    first = mark_at at t k (omega arith)

    next : get_or m (suc k) 0 ≡ at + fields_len k t + suc len
    next = mark_at at t (suc k) (omega arith) ∙ rw (field_step t k h) (omega arith)

    inside : fields_len k t + suc len ≤ text_len (drop at s)
    unfolding text_len
    inside = let q = fields_le (suc k) t in omega (arith, field_step t k h)

    in_file : get_or m (suc k) 0 ≤ length s
    in_file = omega (arith, next, inside, text_le (drop at s), length-drop at s)

    is_marked_lem : is_marked s m (suc k) ≡ true
    unfolding is_marked
    is_marked_lem =
        let o : suc k - 1 ≡ k = omega arith in
        rw (
          marks_length at t,
          lt-ltb 0 (suc k) (omega arith),
          le-leb (suc k) 28 (omega arith),
          le-leb (suc k) (get_or m 29 0) (omega (arith, mark_count_lem at t)),
          o,
          lt-ltb (get_or m k 0) (get_or m (suc k) 0) (omega (arith, first, next)),
          le-leb (get_or m (suc k) 0) (length s) in_file,
        )

    field_is : marked_field s m (suc k) ≡ field_of t (suc k)
    unfolding marked_field field_of text_len
    field_is =
        let o : suc k - 1 ≡ k = omega arith in
        let n : get_or m (suc k) 0 - 1 - get_or m k 0 ≡ len = omega (arith, first, next) in
        rw (is_marked_lem, o, n, first)
        (sym (cut_there s t at (text_len (drop at s)) k (text_is (drop at s)) refl h))

  -- one that is not
  not_counted : (f : ℕ) → length (fields_of t) < f → is_marked s m f ≡ false
  unfolding is_marked
  not_counted f h = rw (marks_length at t, mark_count_lem at t, lt-leb f (length (fields_of t)) h) (go (ltb 0 f) (leb f 28))
    where
      go : (x y : Bool) → x && (y && false) ≡ false
      go true true = refl
      go true false = refl
      go false y = refl

  absent : (f : ℕ) → is_marked s m f ≡ false → marked_field s m f ≡ []
  unfolding marked_field
  absent f e = rw e

  at_zero : is_marked s m 0 ≡ false
  unfolding is_marked
  at_zero = rw (marks_length at t, le-ltb 0 0 (omega arith))

  pub marked_is : (f : ℕ) → f ≤ 28 → marked_field s (marks_of at (line_of (drop at s)).text) f ≡ field_of (line_of (drop at s)).text f
  marked_is zero l = absent 0 at_zero ∙ field_zero t
  marked_is (suc k) l = go (ltb k (length (fields_of t))) refl
    where
      go : (v : Bool) → ltb k (length (fields_of t)) ≡ v → marked_field s m (suc k) ≡ field_of t (suc k)
      go true e = field_is k (ltb-true _ _ e) (omega arith)
      go false e =
          let n : length (fields_of t) < suc k = omega (arith, ltb-false k (length (fields_of t)) e) in
          absent (suc k) (not_counted (suc k) n) ∙ field_none t (suc k) n

-- as judged
pub marked_judged : (s : Text) (at f : ℕ) → at ≤ length s → f ≤ 28 → judged_in s (marks_at s at) f ≡ judged_of (line_of (drop at s)).text f
unfolding judged_in judged_of marks_at
marked_judged s at f a l = ap judged_text (marked_is s at a f l)

-- where it stands, whatever numbers the marks are
module _ (s : Text) (m : List ℕ) (f : ℕ) where
  record Lies (p : Span) : Type 0 where
    start_in : p.start ≤ p.end
    end_in_lem : p.end ≤ length s
    is : part s p.start p.end ≡ judged_in s m f

  bounds : is_marked s m f ≡ true → (get_or m (f - 1) 0 < get_or m f 0) × (get_or m f 0 ≤ length s)
  unfolding is_marked
  bounds e =
      let p = both (eqb (length m) 30) _ e in
      let q = both (ltb 0 f) _ p.1 in
      let r = both (leb f 28) _ q.1 in
      let u = both (leb f (get_or m 29 0)) _ r.1 in
      let w = both (ltb (get_or m (f - 1) 0) (get_or m f 0)) (leb (get_or m f 0) (length s)) u.1 in
      (ltb-true _ _ w.0, leb-true _ _ w.1)

  lies : Lies (judged_span s m f)
  unfolding judged_span judged_in judged_text marked_field
  lies = go (is_marked s m f) refl
    where
      go : (v : Bool) → is_marked s m f ≡ v → Lies (cond v (span (get_or m (f - 1) 0) (get_or m f 0 - 1)) (span 0 0))
      go true e =
          let b = bounds e in
          record { start_in = omega (arith, b.0); end_in_lem = omega (arith, b.1); is = rw e }
      go false e = record { start_in = omega arith; end_in_lem = omega arith; is = rw e }

  pub span_from : (judged_span s m f).start ≤ (judged_span s m f).end
  span_from = lies.start_in

  pub span_in : (judged_span s m f).end ≤ length s
  span_in = lies.end_in_lem

  pub span_is : part s (judged_span s m f).start (judged_span s m f).end ≡ judged_in s m f
  span_is = lies.is
