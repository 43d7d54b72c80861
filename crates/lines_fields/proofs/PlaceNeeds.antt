-- What each need of `find_field` asks: the field's start a and end e, of a line that starts at position at. A field is there exactly if a
-- pipe stands at its end.
-- Assumes nothing.
use mathlib.Core.Path.{◌≡◌, refl, sym, ap, ◌∙◌}
use mathlib.Core.Bool.{Bool, true, false}
use mathlib.Core.List.{List, [], ◌∷◌}
use Prim.Native.Nat.{ℕ, zero, suc, ◌+◌, ◌-◌, ◌≤◌, ◌<◌}
use native.Mathlib.Nat.{add-sub_cancel_left}
use native.Mathlib.Numerals.{sub-one}
use native.Mathlib.Omega.{arith}
use borrow.Author.Rules.{rules}
use borrow.Author.Tests.{eq-eqb, ltb-true, ltb-false, lt-ltb, le-ltb, eqb-true}
use lib.Dec.{eqb, ltb}
use lib.ListN.{length, get_or, drop, length-drop}
use lib.Seq.{get_or-take, get_or-drop}
use Rattle.house.specs.Text.{Text}
use Rattle.lines_fields.specs.declared.FieldPlace.{FieldPlace}
use Rattle.lines_fields.specs.Lines.{pipe, line_of, text_len, fields_of, field_of, is_there, fields_len, place_in}
use Rattle.lines_fields.specs.Inside.{pipe_len}
use Rattle.lines_fields.proofs.LineLaws.{plain_more, text_is, text_le}
use Rattle.lines_fields.proofs.FieldLaws.{next_pipe, next_length}
use Rattle.lines_fields.proofs.PositionLaws.{field_on, fields_on}

-- nowhere
abbrev pub no_place : FieldPlace
no_place = record { there = false; start = 0; length = 0 }

-- the first pipe of a text
pipe_here : (t : Text) → pipe_len t < length t → get_or t (pipe_len t) 0 ≡ pipe
unfolding pipe_len
pipe_here [] h = absurd (omega arith)
pipe_here (b ∷ t) h = go (eqb b pipe) refl (pipe_here t)
  where
    go : (v : Bool) → eqb b pipe ≡ v → (pipe_len t < length t → get_or t (pipe_len t) 0 ≡ pipe) → get_or (b ∷ t) (pipe_len (b ∷ t)) 0 ≡ pipe
    go true e k = simp e (eqb-true b pipe e)
    go false e k = simp e (k (omega (arith, simp e at h)))

-- whether the line from a place on has a field: then its first pipe ends it
module _ (s : Text) (a e : ℕ) (q : e ≡ a + length (field_of (line_of (drop a s)).text 1)) where
  abbrev u : Text
  u = (line_of (drop a s)).text

  module _ (h : 0 < length (fields_of u)) where
    pipe_in : pipe_len u < length u
    pipe_in = next_pipe u 0 0 refl h

    first_long : length (field_of u 1) ≡ pipe_len u
    first_long = next_length u 0 0 refl h

    pub ends_in : e < length s
    unfolding text_len
    ends_in = omega (arith, q, first_long, pipe_in, text_le (drop a s), length-drop a s)

    ends_pipe : get_or s e 0 ≡ pipe
    unfolding text_len
    ends_pipe =
        let w : e ≡ a + pipe_len u = q ∙ ap (λ (n : ℕ). a + n) first_long in
        rw w
        (sym (get_or-drop a s (pipe_len u) 0) ∙ sym (get_or-take (text_len (drop a s)) (drop a s) (pipe_len u) 0 pipe_in) ∙ ap (λ (t : Text). get_or t (pipe_len u) 0) (sym (text_is (drop a s))) ∙ pipe_here u pipe_in)

  -- and a pipe that stands where it starts ends one
  begins : a < length s → get_or s a 0 ≡ pipe → 0 < length (fields_of u)
  unfolding fields_of
  begins h p = rw (plain_more s a h (omega arith), eq-eqb _ _ p) (omega arith)

  none_long : length (fields_of u) ≤ 0 → length (field_of u 1) ≡ 0
  unfolding field_of
  none_long h = go (fields_of u) h
    where
      go : (fs : List Text) → length fs ≤ 0 → length (get_or fs 0 []) ≡ 0
      go [] h = refl
      go (f ∷ fs) h = absurd (omega arith)

  -- so a field is there exactly if a pipe stands at its end
  pub there_pipe : e < length s → get_or s e 0 ≡ pipe → ltb 0 (length (fields_of u)) ≡ true
  there_pipe h p = go (ltb 0 (length (fields_of u))) refl
    where
      go : (v : Bool) → ltb 0 (length (fields_of u)) ≡ v → v ≡ true
      go true z = refl
      go false z =
          let m : length (fields_of u) ≤ 0 = ltb-false 0 (length (fields_of u)) z in
          let w : e ≡ a = omega (arith, q, none_long m) in
          let b : 0 < length (fields_of u) = begins (omega (arith, h, w)) (rw (← w) p) in
          absurd (omega (arith, m, b))

  pub there_past : length s ≤ e → ltb 0 (length (fields_of u)) ≡ false
  there_past h = go (ltb 0 (length (fields_of u))) refl
    where
      go : (v : Bool) → ltb 0 (length (fields_of u)) ≡ v → v ≡ false
      go true z = absurd (omega (arith, ends_in (ltb-true _ _ z)))
      go false z = refl

  pub there_other : (get_or s e 0 ≡ pipe → ⊥) → ltb 0 (length (fields_of u)) ≡ false
  there_other n = go (ltb 0 (length (fields_of u))) refl
    where
      go : (v : Bool) → ltb 0 (length (fields_of u)) ≡ v → v ≡ false
      go true z = absurd (n (ends_pipe (ltb-true _ _ z)))
      go false z = refl

-- the field of the line's text
there_pred : (t : Text) (f : ℕ) → (f ≡ 0 → ⊥) → is_there t f ≡ ltb (f - 1) (length (fields_of t))
unfolding is_there
there_pred t zero n = absurd (n refl)
there_pred t (suc f) n = rw sub-one

below : (k l : ℕ) → ltb k l ≡ ltb 0 (l - k)
below k l = go (ltb k l) refl
  where
    go : (v : Bool) → ltb k l ≡ v → v ≡ ltb 0 (l - k)
    go true z = sym (lt-ltb 0 (l - k) (omega (arith, ltb-true k l z)))
    go false z = sym (le-ltb 0 (l - k) (omega (arith, ltb-false k l z)))

pub place_zero : (t : Text) (at f : ℕ) → f ≡ 0 → no_place ≡ place_in t at f
unfolding place_in is_there field_of
place_zero t at f e = rw e

module _ (s : Text) (at f a e : ℕ) (n : f ≡ 0 → ⊥) (p : a ≡ at + fields_len (f - 1) (line_of (drop at s)).text) (q : e ≡ a + length (field_of (line_of (drop a s)).text 1)) where
  there_is : is_there (line_of (drop at s)).text f ≡ ltb 0 (length (fields_of (line_of (drop a s)).text))
  there_is =
      there_pred (line_of (drop at s)).text f n ∙ below (f - 1) (length (fields_of (line_of (drop at s)).text))
      ∙ ap (ltb 0) (sym (length-drop (f - 1) (fields_of (line_of (drop at s)).text)) ∙ ap length (sym (fields_on s at (f - 1) a p)))

  long_is : length (field_of (line_of (drop at s)).text f) ≡ length (field_of (line_of (drop a s)).text 1)
  long_is =
      let w : suc (f - 1 + 0) ≡ f = omega arith in
      ap length (sym (field_on s at (f - 1) a p 0 ∙ ap (field_of (line_of (drop at s)).text) w))

  none_there : ltb 0 (length (fields_of (line_of (drop a s)).text)) ≡ false → no_place ≡ place_in (line_of (drop at s)).text at f
  unfolding place_in
  none_there z = rw (there_is, z, long_is, none_long s a e q (ltb-false _ _ z))

  pub place_past : length s ≤ e → no_place ≡ place_in (line_of (drop at s)).text at f
  place_past h = none_there (there_past s a e q h)

  pub place_other : (get_or s e 0 ≡ pipe → ⊥) → no_place ≡ place_in (line_of (drop at s)).text at f
  place_other m = none_there (there_other s a e q m)

  pub place_here : e < length s → get_or s e 0 ≡ pipe → record { there = true; start = a; length = e - a } ≡ place_in (line_of (drop at s)).text at f
  unfolding place_in
  place_here h m = rw (there_is, there_pipe s a e q h m, long_is, q, add-sub_cancel_left, p)

  pub place_after : a ≤ e
  place_after = omega (arith, q)

pub ruleset for_find_field = (rules, place_zero, place_past, place_other, place_here, place_after)
