-- A field's text is the part of the file that starts at its position, and a line's fields go on from there.
-- Assumes nothing.
use mathlib.Core.Path.{◌≡◌, refl, sym, ap, ◌∙◌}
use mathlib.Core.Bool.{Bool, true, false}
use mathlib.Core.List.{List, [], ◌∷◌}
use Prim.Native.Nat.{ℕ, zero, suc, ◌+◌, ◌-◌, ◌≤◌, ◌<◌}
use native.Mathlib.Nat.{add-sub_cancel_left}
use native.Mathlib.Numerals.{sub-one}
use native.Mathlib.Omega.{arith}
use borrow.Author.Tests.{ltb-true, ltb-false}
use lib.Dec.{eqb, ltb}
use lib.ListN.{length, get_or, take, drop, length-drop}
use lib.Seq.{length-take-le, take-take, drop-drop, get_or-drop}
use Rattle.house.specs.Text.{Text}
use Rattle.house.proofs.Small.{clash}
use Rattle.lines_fields.specs.Lines.{pipe, line_of, text_len, lengthen, fields_of, field_of, text_at, is_there, field_text, field_there, lines_len, fields_len, field_position}
use Rattle.lines_fields.specs.Inside.{part, pipe_len}
use Rattle.lines_fields.proofs.LineLaws.{text_is, text_after, text_from_lem}
use Rattle.lines_fields.proofs.FieldLaws.{lengthen_length, start_zero, fields_first, fields_none, fields_after, fields_le, field_first}
use Rattle.lines_fields.proofs.CutLaws.{part_drop}

-- a text after its first k fields
abbrev after_front : ℕ → Text → Text
after_front k t = drop (fields_len k t) t

-- field k + 1 of a text
module _ (t : Text) (k : ℕ) (h : k < length (fields_of t)) where
  closed : pipe_len (after_front k t) < length (after_front k t)
  closed = go (ltb (pipe_len (after_front k t)) (length (after_front k t))) refl
    where
      go : (b : Bool) → ltb (pipe_len (after_front k t)) (length (after_front k t)) ≡ b → pipe_len (after_front k t) < length (after_front k t)
      go true e = ltb-true _ _ e
      go false e =
          let n : length (fields_of (after_front k t)) ≡ 0 = rw (fields_none (after_front k t) (ltb-false _ _ e)) in
          absurd (omega (arith, n, ap length (fields_after k t), length-drop k (fields_of t)))

  field_cut : get_or (fields_of t) k [] ≡ take (pipe_len (after_front k t)) (after_front k t)
  field_cut = field_first k t ∙ rw (fields_first (after_front k t) closed)

  field_long : length (get_or (fields_of t) k []) ≡ pipe_len (after_front k t)
  field_long = rw field_cut (length-take-le (pipe_len (after_front k t)) (after_front k t) (omega (arith, closed)))

-- where the field after it starts: behind it and its pipe
step_first : (b : ℕ) (fs : List Text) → 0 < length fs → length (get_or (lengthen b fs) 0 []) ≡ suc (length (get_or fs 0 []))
unfolding lengthen
step_first b [] h = absurd (omega arith)
step_first b (f ∷ fs) h = refl

step_other : (b : ℕ) (fs : List Text) (j : ℕ) → get_or (lengthen b fs) (suc j) [] ≡ get_or fs (suc j) []
unfolding lengthen
step_other b [] j = refl
step_other b (f ∷ fs) j = refl

module _ (b : ℕ) (t : Text) (rec : (k : ℕ) → k < length (fields_of t) → fields_len (suc k) t ≡ fields_len k t + suc (length (get_or (fields_of t) k []))) where
  step_pipe : eqb b pipe ≡ true → (k : ℕ) → k < length (fields_of (b ∷ t)) → fields_len (suc k) (b ∷ t) ≡ fields_len k (b ∷ t) + suc (length (get_or (fields_of (b ∷ t)) k []))
  unfolding fields_of fields_len
  step_pipe e zero h = simp e (omega (arith, start_zero t))
  step_pipe e (suc j) h = simp e (omega (arith, rec j (omega (arith, simp e at h))))

  step_text : eqb b pipe ≡ false → (k : ℕ) → k < length (fields_of (b ∷ t)) → fields_len (suc k) (b ∷ t) ≡ fields_len k (b ∷ t) + suc (length (get_or (fields_of (b ∷ t)) k []))
  unfolding fields_of fields_len
  step_text e zero h =
      let n : 0 < length (fields_of t) = omega (arith, simp e at h, lengthen_length b (fields_of t)) in
      simp e (omega (arith, rec 0 n, step_first b (fields_of t) n, start_zero t))
  step_text e (suc j) h =
      let n : suc j < length (fields_of t) = omega (arith, simp e at h, lengthen_length b (fields_of t)) in
      simp (e, step_other b (fields_of t) j) (omega (arith, rec (suc j) n))

pub field_step : (t : Text) (k : ℕ) → k < length (fields_of t) → fields_len (suc k) t ≡ fields_len k t + suc (length (get_or (fields_of t) k []))
unfolding fields_of
field_step [] k h = absurd (omega arith)
field_step (b ∷ t) k h = go (eqb b pipe) refl (field_step t)
  where
    go : (v : Bool) → eqb b pipe ≡ v → ((j : ℕ) → j < length (fields_of t) → fields_len (suc j) t ≡ fields_len j t + suc (length (get_or (fields_of t) j [])))
        → fields_len (suc k) (b ∷ t) ≡ fields_len k (b ∷ t) + suc (length (get_or (fields_of (b ∷ t)) k []))
    go true e r = step_pipe b t r e k h
    go false e r = step_text b t r e k h

-- what is cut out of the front of a text is cut out of the text
front_cut : (v : Text) (l b p : ℕ) → p ≤ l - b → take p (drop b (take l v)) ≡ take p (drop b v)
front_cut v l b p h = rw (← part_drop v b l) (take-take p (l - b) (drop b v) h)

-- field k + 1 of a text of l bytes that stands at position a of a file
pub cut_there : (s t : Text) (a l k : ℕ) → t ≡ take l (drop a s) → length t ≡ l → k < length (fields_of t)
    → get_or (fields_of t) k [] ≡ take (length (get_or (fields_of t) k [])) (drop (a + fields_len k t) s)
cut_there s t a l k e n h =
    let q : pipe_len (after_front k t) ≤ l - fields_len k t = omega (arith, closed t k h, length-drop (fields_len k t) t) in
    rw (field_long t k h)
    (field_cut t k h ∙ ap (λ (x : Text). take (pipe_len (after_front k t)) (drop (fields_len k t) x)) e ∙ front_cut (drop a s) l (fields_len k t) (pipe_len (after_front k t)) q ∙ rw drop-drop)

position : (s : Text) (m k : ℕ) → field_there s (suc m) (suc k) ≡ true → field_position s (suc m) (suc k) ≡ lines_len m s + fields_len k (text_at s (suc m))
unfolding field_position
position s m k h = rw (h, sub-one, sub-one)

pub position_cut : (s : Text) (n f : ℕ) → field_there s n f ≡ true → part s (field_position s n f) (field_position s n f + length (field_text s n f)) ≡ field_text s n f
unfolding field_there is_there field_text field_of text_at fields_of text_len
position_cut s n zero h = clash (cc)
position_cut s zero (suc k) h = absurd (omega (arith, ltb-true k 0 h))
position_cut s (suc m) (suc k) h =
    let i : text_at s (suc m) ≡ (line_of (drop (lines_len m s) s)).text = text_after s (suc m) (λ z. omega arith) ∙ rw sub-one in
    rw (add-sub_cancel_left, position s m k h)
    (sym (cut_there s (text_at s (suc m)) (lines_len m s) (text_len (drop (lines_len m s) s)) k (i ∙ text_is (drop (lines_len m s) s)) (ap length i) (ltb-true _ _ h)))

-- from where the field after k fields of a line starts, the line goes on with the fields that follow these
module _ (s : Text) (at k a : ℕ) (p : a ≡ at + fields_len k (line_of (drop at s)).text) where
  rest_on : (line_of (drop a s)).text ≡ after_front k (line_of (drop at s)).text
  unfolding text_len
  rest_on =
      ap (λ (n : ℕ). (line_of (drop n s)).text) p ∙ ap (λ (t : Text). (line_of t).text) (sym (drop-drop (fields_len k (line_of (drop at s)).text) at s))
      ∙ text_from_lem (fields_len k (line_of (drop at s)).text) (drop at s) (fields_le k (line_of (drop at s)).text)

  pub fields_on : fields_of (line_of (drop a s)).text ≡ drop k (fields_of (line_of (drop at s)).text)
  fields_on = rw (rest_on, fields_after)

  pub field_on : (f : ℕ) → field_of (line_of (drop a s)).text (suc f) ≡ field_of (line_of (drop at s)).text (suc (k + f))
  unfolding field_of
  field_on f = rw (rest_on, fields_after, get_or-drop)
