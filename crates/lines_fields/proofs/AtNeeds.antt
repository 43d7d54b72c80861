-- What each need of `start_at`, `field_end_lem` and `field_at` asks: of the text of a line from a position in the file on.
-- Assumes nothing.
use mathlib.Core.Path.{◌≡◌, refl, sym, ap, ◌∙◌}
use mathlib.Core.Bool.{Bool, true, false, cond}
use mathlib.Core.List.{List, [], ◌∷◌}
use Prim.Native.Nat.{ℕ, suc, ◌+◌, ◌-◌, ◌≤◌, ◌<◌}
use native.Mathlib.Nat.{add-zero, add-sub_cancel_left, min-le_right}
use native.Mathlib.Omega.{arith}
use borrow.Author.Rules.{rules}
use borrow.Author.Tests.{eq-eqb, ne_eqb}
use lib.Dec.{eqb}
use lib.ListN.{length, get_or, take, drop, length-take, length-drop}
use lib.Seq.{take-take}
use Rattle.house.specs.Text.{Text}
use Rattle.house.proofs.Suffix.{drop_here, drop_past}
use Rattle.lines_fields.specs.Lines.{pipe, ending_of, line_of, text_len, lengthen, fields_of, field_of, fields_len}
use Rattle.lines_fields.proofs.LineLaws.{line_more, plain_more, line_stop, line_nil, text_is, text_le}
use Rattle.lines_fields.proofs.FieldLaws.{start_zero}
use Rattle.lines_fields.proofs.FieldNeeds.{start_cons, field_zero}
use Rattle.lines_fields.proofs.PositionLaws.{field_on}

-- the text of a line from position i on
abbrev rest : Text → ℕ → Text
rest s i = (line_of (drop i s)).text

module _ (s : Text) (i : ℕ) where
  rest_past : length s ≤ i → rest s i ≡ []
  rest_past h = ap (λ (t : Text). (line_of t).text) (drop_past s i h) ∙ line_nil

  rest_stop : (e : ℕ) → e ≡ ending_of (drop i s) → (e ≡ 0 → ⊥) → rest s i ≡ []
  rest_stop e p n = line_stop (drop i s) (λ z. n (p ∙ z))

  module _ (h : i < length s) where
    rest_more : (e : ℕ) → e ≡ ending_of (drop i s) → e ≡ 0 → rest s i ≡ get_or s i 0 ∷ rest s (i + 1)
    rest_more e p z =
        let g : ending_of (get_or s i 0 ∷ drop (i + 1) s) ≡ 0 = rw (← drop_here s i h) (sym p ∙ z) in
        ap (λ (t : Text). (line_of t).text) (drop_here s i h) ∙ rw (line_more (get_or s i 0) (drop (i + 1) s) g)

-- start_at: the start x, from a position i with f fields left
pub skip_none : (s : Text) (at f : ℕ) → f ≡ 0 → at ≡ at + fields_len f (line_of (drop at s)).text
skip_none s at f e = rw (e, start_zero, add-zero)

module _ (s : Text) (i f x : ℕ) (o : 1 ≤ f) (inv : x ≡ i + fields_len f (line_of (drop i s)).text) where
  none : rest s i ≡ [] → i ≡ x
  unfolding fields_len
  none e = rw (inv, e, add-zero)

  pub skip_past : length s ≤ i → i ≡ x
  skip_past h = none (rest_past s i h)

  pub skip_stop : (e : ℕ) → e ≡ ending_of (drop i s) → (e ≡ 0 → ⊥) → i ≡ x
  skip_stop e p n = none (rest_stop s i e p n)

  module _ (h : i < length s) where
    module _ (p : get_or s i 0 ≡ pipe) where
      over_pipe : x ≡ i + 1 + fields_len (f - 1) (rest s (i + 1))
      over_pipe = rw (inv, plain_more s i h (omega arith), start_cons f (get_or s i 0) (rest s (i + 1)) (λ z. omega arith), eq-eqb _ _ p) (omega arith)

      pub skip_last : f ≡ 1 → i + 1 ≡ x
      skip_last e = rw (over_pipe, e, start_zero, add-zero)

      pub skip_pipe : (f ≡ 1 → ⊥) → x ≡ i + 1 + fields_len (f - 1) (line_of (drop (i + 1) s)).text
      skip_pipe n = over_pipe

    module _ (n : get_or s i 0 ≡ pipe → ⊥) where
      over_text : rest s i ≡ get_or s i 0 ∷ rest s (i + 1) → x ≡ i + 1 + fields_len f (rest s (i + 1))
      over_text e = rw (inv, e, start_cons f (get_or s i 0) (rest s (i + 1)) (λ z. omega arith), ne_eqb _ _ n) (omega arith)

      pub skip_low : (e : ℕ) → e ≡ ending_of (drop i s) → e ≡ 0 → x ≡ i + 1 + fields_len f (line_of (drop (i + 1) s)).text
      skip_low e p z = over_text (rest_more s i h e p z)

      pub skip_plain : 14 ≤ get_or s i 0 → x ≡ i + 1 + fields_len f (line_of (drop (i + 1) s)).text
      skip_plain l = over_text (plain_more s i h l)

pub ruleset for_start_at = (rules, skip_none, skip_past, skip_stop, skip_last, skip_pipe, skip_low, skip_plain)

-- field_end: the end x of the field that starts at position a, from a position i; a where there is none among these fields
abbrev pub end_in : ℕ → ℕ → List Text → ℕ
end_in a i [] = a
end_in a i (f ∷ fs) = i + length f

end_lengthen : (a i b : ℕ) (fs : List Text) → end_in a i (lengthen b fs) ≡ end_in a (i + 1) fs
unfolding lengthen
end_lengthen a i b [] = refl
end_lengthen a i b (f ∷ fs) = omega arith

pub end_holds : (a : ℕ) (t : Text) → a + length (field_of t 1) ≡ end_in a a (fields_of t)
unfolding field_of
end_holds a t = go (fields_of t)
  where
    go : (fs : List Text) → a + length (get_or fs 0 []) ≡ end_in a a fs
    go [] = add-zero a
    go (f ∷ fs) = refl

module _ (s : Text) (a i x : ℕ) (inv : x ≡ end_in a i (fields_of (line_of (drop i s)).text)) where
  open_here : rest s i ≡ [] → a ≡ x
  unfolding fields_of
  open_here e = rw (inv, e)

  pub end_past : length s ≤ i → a ≡ x
  end_past h = open_here (rest_past s i h)

  pub end_stop : (e : ℕ) → e ≡ ending_of (drop i s) → (e ≡ 0 → ⊥) → a ≡ x
  end_stop e p n = open_here (rest_stop s i e p n)

  module _ (h : i < length s) where
    pub end_pipe : get_or s i 0 ≡ pipe → i ≡ x
    unfolding fields_of
    end_pipe p = rw (inv, plain_more s i h (omega arith), eq-eqb _ _ p, add-zero)

    module _ (n : get_or s i 0 ≡ pipe → ⊥) where
      end_text : rest s i ≡ get_or s i 0 ∷ rest s (i + 1) → x ≡ end_in a (i + 1) (fields_of (rest s (i + 1)))
      unfolding fields_of
      end_text e = rw (inv, e, ne_eqb _ _ n, end_lengthen)

      pub end_low : (e : ℕ) → e ≡ ending_of (drop i s) → e ≡ 0 → x ≡ end_in a (i + 1) (fields_of (line_of (drop (i + 1) s)).text)
      end_low e p z = end_text (rest_more s i h e p z)

      pub end_plain : 14 ≤ get_or s i 0 → x ≡ end_in a (i + 1) (fields_of (line_of (drop (i + 1) s)).text)
      end_plain l = end_text (plain_more s i h l)

pub ruleset for_field_end = (rules, end_holds, end_past, end_stop, end_pipe, end_low, end_plain)

-- field_at: the field's start a and end e, of a line that starts at position at
front_lengthen : (b : ℕ) (fs : List Text) (t : Text) → get_or fs 0 [] ≡ take (length (get_or fs 0 [])) t
    → get_or (lengthen b fs) 0 [] ≡ take (length (get_or (lengthen b fs) 0 [])) (b ∷ t)
unfolding lengthen
front_lengthen b [] t h = refl
front_lengthen b (f ∷ fs) t h = ap (λ (u : Text). b ∷ u) h

first_front : (t : Text) → get_or (fields_of t) 0 [] ≡ take (length (get_or (fields_of t) 0 [])) t
unfolding fields_of
first_front [] = refl
first_front (b ∷ t) = go (eqb b pipe) (front_lengthen b (fields_of t) t (first_front t))
  where
    go : (v : Bool) → get_or (lengthen b (fields_of t)) 0 [] ≡ take (length (get_or (lengthen b (fields_of t)) 0 [])) (b ∷ t)
        → get_or (cond v ([] ∷ fields_of t) (lengthen b (fields_of t))) 0 [] ≡ take (length (get_or (cond v ([] ∷ fields_of t) (lengthen b (fields_of t))) 0 [])) (b ∷ t)
    go true h = refl
    go false h = h

take_first : (t : Text) → field_of t 1 ≡ take (length (field_of t 1)) t
unfolding field_of
take_first t = first_front t

no_bytes : (t : Text) → length t ≡ 0 → t ≡ []
no_bytes [] e = refl
no_bytes (b ∷ t) e = absurd (omega arith)

first_le : (t : Text) → length (field_of t 1) ≤ length t
unfolding field_of
first_le t = rw first_front (simp length-take (omega (arith, min-le_right (length (get_or (fields_of t) 0 [])) (length t))))

module _ (s : Text) (at f a e : ℕ) (n : f ≡ 0 → ⊥) (p : a ≡ at + fields_len (f - 1) (line_of (drop at s)).text) (q : e ≡ a + length (field_of (line_of (drop a s)).text 1)) where
  is_first_lem : field_of (rest s a) 1 ≡ field_of (rest s at) f
  is_first_lem =
      let e : suc (f - 1 + 0) ≡ f = omega arith in
      field_on s at (f - 1) a p 0 ∙ ap (field_of (rest s at)) e

  in_line : length (field_of (rest s a) 1) ≤ length s - a
  unfolding text_len
  in_line = omega (arith, first_le (rest s a), text_le (drop a s), length-drop a s)

  pub field_in_lem : a < e → e ≤ length s
  field_in_lem h = omega (arith, in_line)

  pub field_cut : a < e → take (e - a) (drop a s) ≡ field_of (line_of (drop at s)).text f
  unfolding text_len
  field_cut h =
      let l : length (field_of (rest s a) 1) ≤ text_len (drop a s) = first_le (rest s a) in
      rw (q, add-sub_cancel_left, ← is_first_lem) (sym (take_first (rest s a) ∙ ap (take (length (field_of (rest s a) 1))) (text_is (drop a s)) ∙ take-take _ _ (drop a s) l))

  pub field_empty : e ≤ a → [] ≡ field_of (line_of (drop at s)).text f
  field_empty h = rw (← is_first_lem) (sym (no_bytes (field_of (rest s a) 1) (omega arith)))

pub ruleset for_field_at = (rules, field_zero, field_in_lem, field_cut, field_empty)
