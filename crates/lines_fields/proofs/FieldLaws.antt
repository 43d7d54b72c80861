-- The fields of a line's text: the first field, and the fields after it.
-- Assumes nothing.
use mathlib.Core.Path.{◌≡◌, refl, sym, ap, ◌∙◌}
use mathlib.Core.Bool.{Bool, true, false, cond}
use mathlib.Core.List.{List, [], ◌∷◌, ◌++◌}
use Prim.Native.Nat.{ℕ, zero, suc, ◌+◌, ◌-◌, ◌≤◌, ◌<◌}
use native.Mathlib.Nat.{zero-add, add-zero}
use native.Mathlib.Omega.{arith}
use borrow.Author.Tests.{ltb-true, ltb-false}
use lib.Dec.{eqb, ltb}
use lib.ListN.{length, get_or, take, drop, length-drop}
use lib.Seq.{drop-drop, drop-nil, get_or-drop, get_or-take, length-take-le, take-append_seam, drop-append_seam}
use Rattle.house.specs.Text.{Text}
use Rattle.lines_fields.specs.Lines.{pipe, lengthen, fields_of, field_of, fields_len}
use Rattle.lines_fields.specs.Inside.{pipe_len}

-- a byte before the fields adds none and moves none but the first
pub lengthen_length : (b : ℕ) (fs : List Text) → length (lengthen b fs) ≡ length fs
unfolding lengthen
lengthen_length b [] = refl
lengthen_length b (f ∷ fs) = refl

pub lengthen_take : (n b : ℕ) (fs : List Text) → take (suc n) (lengthen b fs) ≡ lengthen b (take (suc n) fs)
unfolding lengthen
lengthen_take n b [] = refl
lengthen_take n b (f ∷ fs) = refl

lengthen_drop : (n b : ℕ) (fs : List Text) → drop (suc n) (lengthen b fs) ≡ drop (suc n) fs
unfolding lengthen
lengthen_drop n b [] = refl
lengthen_drop n b (f ∷ fs) = refl

-- the first field and those after it, where there is a pipe
pub fields_first : (t : Text) → pipe_len t < length t → fields_of t ≡ take (pipe_len t) t ∷ fields_of (drop (suc (pipe_len t)) t)
unfolding fields_of pipe_len lengthen
fields_first [] h = absurd (omega arith)
fields_first (b ∷ t) h = go (eqb b pipe) refl (fields_first t)
  where
    go : (v : Bool) → eqb b pipe ≡ v → (pipe_len t < length t → fields_of t ≡ take (pipe_len t) t ∷ fields_of (drop (suc (pipe_len t)) t))
        → fields_of (b ∷ t) ≡ take (pipe_len (b ∷ t)) (b ∷ t) ∷ fields_of (drop (suc (pipe_len (b ∷ t))) (b ∷ t))
    go true e k = simp e
    go false e k = simp (e, k (omega (arith, simp e at h)))

-- and none where there is none
pub fields_none : (t : Text) → length t ≤ pipe_len t → fields_of t ≡ []
unfolding fields_of pipe_len lengthen
fields_none [] h = refl
fields_none (b ∷ t) h = go (eqb b pipe) refl (fields_none t)
  where
    go : (v : Bool) → eqb b pipe ≡ v → (length t ≤ pipe_len t → fields_of t ≡ []) → fields_of (b ∷ t) ≡ []
    go true e k = absurd (omega (arith, simp e at h))
    go false e k = simp (e, k (omega (arith, simp e at h)))

-- the fields after f fields
pub fields_after : (f : ℕ) (t : Text) → fields_of (drop (fields_len f t) t) ≡ drop f (fields_of t)
unfolding fields_len fields_of
fields_after f [] = simp drop-nil
fields_after zero (b ∷ t) = refl
fields_after (suc f) (b ∷ t) = go (eqb b pipe) (fields_after f t) (fields_after (suc f) t)
  where
    go : (v : Bool) → fields_of (drop (fields_len f t) t) ≡ drop f (fields_of t) → fields_of (drop (fields_len (suc f) t) t) ≡ drop (suc f) (fields_of t)
        → fields_of (drop (cond v (fields_len f t) (fields_len (suc f) t)) t) ≡ drop (suc f) (cond v ([] ∷ fields_of t) (lengthen b (fields_of t)))
    go true h k = h
    go false h k = k ∙ sym (lengthen_drop f b (fields_of t))

pub start_zero : (t : Text) → fields_len 0 t ≡ 0
unfolding fields_len
start_zero [] = refl
start_zero (b ∷ t) = refl

pub fields_le : (f : ℕ) (t : Text) → fields_len f t ≤ length t
unfolding fields_len
fields_le f [] = omega arith
fields_le zero (b ∷ t) = omega arith
fields_le (suc f) (b ∷ t) = go (eqb b pipe) (fields_le f t) (fields_le (suc f) t)
  where
    go : (v : Bool) → fields_len f t ≤ length t → fields_len (suc f) t ≤ length t → suc (cond v (fields_len f t) (fields_len (suc f) t)) ≤ suc (length t)
    go true h k = omega arith
    go false h k = omega arith

-- the fields that end in a text's first n bytes, and those that end after
pub fields_split : (n : ℕ) (t : Text) → length (fields_of t) ≡ length (fields_of (take n t)) + length (fields_of (drop n t))
unfolding fields_of
fields_split zero t = simp zero-add
fields_split (suc n) [] = refl
fields_split (suc n) (b ∷ t) = go (eqb b pipe) (fields_split n t)
  where
    go : (u : Bool) → length (fields_of t) ≡ length (fields_of (take n t)) + length (fields_of (drop n t))
        → length (cond u ([] ∷ fields_of t) (lengthen b (fields_of t)))
        ≡ length (cond u ([] ∷ fields_of (take n t)) (lengthen b (fields_of (take n t)))) + length (fields_of (drop n t))
    go true r = omega (arith, r)
    go false r = rw (lengthen_length, lengthen_length) r

pub fields_join : (u r : Text) → length (fields_of (u ++ r)) ≡ length (fields_of u) + length (fields_of r)
fields_join u r = fields_split (length u) (u ++ r) ∙ rw (take-append_seam, drop-append_seam)

-- a search for the start of a field passes over n bytes in which fewer fields end
pub fields_pass : (n f : ℕ) (t : Text) → n ≤ length t → length (fields_of (take n t)) < f → fields_len f t ≡ n + fields_len (f - length (fields_of (take n t))) (drop n t)
unfolding fields_of fields_len
fields_pass zero f t l h = let e : f - 0 ≡ f = omega arith in rw (zero-add, e)
fields_pass (suc n) f [] l h = absurd (omega arith)
fields_pass (suc n) zero (b ∷ t) l h = absurd (omega arith)
fields_pass (suc n) (suc f) (b ∷ t) l h = go (eqb b pipe) (fields_pass n f t (omega arith)) (fields_pass n (suc f) t (omega arith)) h
  where
    go : (v : Bool) → (length (fields_of (take n t)) < f → fields_len f t ≡ n + fields_len (f - length (fields_of (take n t))) (drop n t))
        → (length (fields_of (take n t)) < suc f → fields_len (suc f) t ≡ n + fields_len (suc f - length (fields_of (take n t))) (drop n t))
        → length (cond v ([] ∷ fields_of (take n t)) (lengthen b (fields_of (take n t)))) < suc f
        → suc (cond v (fields_len f t) (fields_len (suc f) t)) ≡ suc n + fields_len (suc f - length (cond v ([] ∷ fields_of (take n t)) (lengthen b (fields_of (take n t))))) (drop n t)
    go true p q i = let e : suc f - suc (length (fields_of (take n t))) ≡ f - length (fields_of (take n t)) = omega arith in rw (e, p (omega arith)) (omega arith)
    go false p q i = rw (lengthen_length b (fields_of (take n t)), q (omega (arith, lengthen_length b (fields_of (take n t))))) (omega arith)

-- no more fields than bytes
pub fields_few : (t : Text) → length (fields_of t) ≤ length t
unfolding fields_of
fields_few [] = omega arith
fields_few (b ∷ t) = go (eqb b pipe) (fields_few t)
  where
    go : (v : Bool) → length (fields_of t) ≤ length t → length (cond v ([] ∷ fields_of t) (lengthen b (fields_of t))) ≤ suc (length t)
    go true h = omega arith
    go false h = omega (arith, lengthen_length b (fields_of t))

pub field_first : (k : ℕ) (t : Text) → get_or (fields_of t) k [] ≡ get_or (fields_of (drop (fields_len k t) t)) 0 []
field_first k t = rw (fields_after, get_or-drop, add-zero)

-- The fields one after the other: from where the field after f fields starts, the first pipe ends it, and the next one starts after that pipe
module _ (t : Text) (at f : ℕ) (e : fields_of (drop at t) ≡ drop f (fields_of t)) (h : f < length (fields_of t)) where
  pub next_pipe : pipe_len (drop at t) < length (drop at t)
  next_pipe = go (ltb (pipe_len (drop at t)) (length (drop at t))) refl
    where
      go : (v : Bool) → ltb (pipe_len (drop at t)) (length (drop at t)) ≡ v → pipe_len (drop at t) < length (drop at t)
      go true z = ltb-true _ _ z
      go false z =
          let n : length (drop f (fields_of t)) ≡ 0 = ap length (sym e ∙ fields_none (drop at t) (ltb-false _ _ z)) in
          absurd (omega (arith, length-drop f (fields_of t)))

  next_first_lem : take (pipe_len (drop at t)) (drop at t) ∷ fields_of (drop (suc (pipe_len (drop at t))) (drop at t)) ≡ drop f (fields_of t)
  next_first_lem = sym (fields_first (drop at t) next_pipe) ∙ e

  next_here : field_of (drop at t) 1 ≡ take (pipe_len (drop at t)) (drop at t)
  unfolding field_of
  next_here = ap (λ (fs : List Text). get_or fs 0 []) (fields_first (drop at t) next_pipe)

  pub next_length : length (field_of (drop at t) 1) ≡ pipe_len (drop at t)
  next_length = ap length next_here ∙ length-take-le (pipe_len (drop at t)) (drop at t) (omega (arith, next_pipe))

  pub next_inside : at + length (field_of (drop at t) 1) < length t
  next_inside = omega (arith, next_pipe, next_length, length-drop at t)

  pub next_text : field_of (drop at t) 1 ≡ field_of t (suc f)
  unfolding field_of
  next_text = ap (λ (fs : List Text). get_or fs 0 []) e ∙ rw (get_or-drop, add-zero)

  pub next_fields : fields_of (drop (at + length (field_of (drop at t) 1) + 1) t) ≡ drop (suc f) (fields_of t)
  next_fields =
      let k : at + length (field_of (drop at t) 1) + 1 ≡ at + suc (pipe_len (drop at t)) = omega (arith, next_length) in
      let n : f + 1 ≡ suc f = omega arith in
      rw (k, ← drop-drop) (ap (drop 1) next_first_lem ∙ rw (drop-drop, n))

-- a field of two texts that are alike in their first n
pub fields_alike : (t u : Text) (n : ℕ) → take n (fields_of t) ≡ take n (fields_of u) → (f : ℕ) → f < n → field_of t (suc f) ≡ field_of u (suc f)
unfolding field_of
fields_alike t u n e f h = sym (get_or-take n (fields_of t) f [] h) ∙ ap (λ (fs : List Text). get_or fs f []) e ∙ get_or-take n (fields_of u) f [] h
