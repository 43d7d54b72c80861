-- What each need of the numbers of events asks.
-- Assumes nothing.
use mathlib.Core.Path.{◌≡◌, refl, sym, ap, ◌∙◌}
use mathlib.Core.List.{[], ◌∷◌, ◌++◌}
use Prim.Native.Nat.{ℕ, zero, suc, ◌+◌, ◌-◌, ◌*◌, ◌%◌, ◌≤◌, ◌<◌}
use native.Mathlib.Nat.{not-suc-le-zero, le_of_suc-le-suc, min-le_left}
use native.Mathlib.Numerals.{unary_clauses}
use native.Mathlib.Omega.{arith}
use borrow.Author.Rules.{rules}
use lib.ListN.{length, get_or, take, drop, length-take}
use Rattle.house.specs.Text.{Text, pad}
use Rattle.house.proofs.Suffix.{drop_here, drop_past}
use Rattle.blanks.specs.Blanks.{trimmed}
use Rattle.blanks.proofs.TrimLaws.{trimmed_short}
use Rattle.lines_words.specs.Words.{part_at, chart_event, hash_bound, hash_from, event_hash}
use Rattle.lines_words.specs.Inside.{plain_at}
use Rattle.lines_words.proofs.PlainNeeds.{plain_part}

-- one text behind another
pub hash_append : (h : ℕ) (a b : Text) → hash_from h (a ++ b) ≡ hash_from (hash_from h a) b
unfolding hash_from
hash_append h [] b = refl
hash_append h (x ∷ a) b = hash_append ((h * 257 + x) % hash_bound) a b

hash_none : (h : ℕ) → hash_from h [] ≡ h
unfolding hash_from
hash_none h = refl

hash_first : (h b : ℕ) (t : Text) → hash_from h (b ∷ t) ≡ hash_from ((h * 257 + b) % hash_bound) t
unfolding hash_from
hash_first h b t = refl

-- hash_on
module _ (t : Text) (i g x : ℕ) (inv : x ≡ hash_from g (drop i t)) where
  pub hash_turn : (f : ℕ) → i < length t → f ≡ (g * 257 + get_or t i 0) % hash_bound → x ≡ hash_from f (drop (i + 1) t)
  hash_turn f h e = inv ∙ ap (hash_from g) (drop_here t i h) ∙ hash_first g (get_or t i 0) (drop (i + 1) t) ∙ ap (λ (n : ℕ). hash_from n (drop (i + 1) t)) (sym e)

  pub hash_end : length t ≤ i → g ≡ x
  hash_end h = sym (inv ∙ ap (hash_from g) (drop_past t i h) ∙ hash_none g)

pub ruleset for_hash_on = (rules, hash_turn, hash_end)

-- hash_pad
pad_zero : pad 0 [] ≡ []
unfolding pad
pad_zero = refl

pad_first : (n : ℕ) → 0 < n → pad n [] ≡ 32 ∷ pad (n - 1) []
unfolding pad
pad_first zero h = absurd (not-suc-le-zero h)
pad_first (suc n) h = simp unary_clauses

module _ (n k g x : ℕ) (inv : x ≡ hash_from g (pad (n - k) [])) where
  pub pad_turn : (f : ℕ) → k < n → f ≡ (g * 257 + 32) % hash_bound → x ≡ hash_from f (pad (n - (k + 1)) [])
  pad_turn f h e =
      let z : n - k - 1 ≡ n - (k + 1) = omega arith in
      inv ∙ ap (hash_from g) (pad_first (n - k) (omega arith)) ∙ hash_first g 32 (pad (n - k - 1) []) ∙ ap (λ (m : ℕ). hash_from m (pad (n - k - 1) [])) (sym e)
      ∙ ap (λ (m : ℕ). hash_from f (pad m [])) z

  pub pad_end : n ≤ k → g ≡ x
  pad_end h =
      let z : n - k ≡ 0 = omega arith in
      sym (inv ∙ ap (λ (m : ℕ). hash_from g (pad m [])) z ∙ ap (hash_from g) pad_zero ∙ hash_none g)

pub ruleset for_hash_pad = (rules, pad_turn, pad_end)

-- hash_padded
pad_is : (w : ℕ) (t : Text) → length t ≤ w → pad w t ≡ t ++ pad (w - length t) []
unfolding pad
pad_is w [] h = simp unary_clauses
pad_is zero (b ∷ t) h = absurd (not-suc-le-zero h)
pad_is (suc w) (b ∷ t) h = ap (λ (u : Text). b ∷ u) (simp unary_clauses (pad_is w t (le_of_suc-le-suc h)))

module _ (s t : Text) (at w : ℕ) (e : t ≡ trimmed (take w (drop at s))) where
  pub part_fits : length t ≤ w
  part_fits = rw e (omega (arith, trimmed_short (take w (drop at s)), length-take w (drop at s), min-le_left w (length (drop at s))))

  pub hash_pads : (h g x : ℕ) → g ≡ hash_from h t → x ≡ hash_from g (pad (w - length t) []) → x ≡ hash_from h (part_at s at w)
  unfolding part_at
  hash_pads h g x p q =
      q ∙ ap (λ (n : ℕ). hash_from n (pad (w - length t) [])) p ∙ sym (hash_append h t (pad (w - length t) []))
      ∙ ap (hash_from h) (sym (pad_is w t part_fits) ∙ ap (pad w) e)

pub ruleset for_hash_padded = (rules, part_fits, hash_pads)

-- hash_part
pub hash_plain : (s t : Text) (at w h x : ℕ) → t ≡ plain_at s at w → (length t ≡ 0 → ⊥) → x ≡ hash_from h t → x ≡ hash_from h (part_at s at w)
hash_plain s t at w h x e n r = r ∙ ap (hash_from h) (plain_part s at w t e n)

pub ruleset for_hash_part = (rules, hash_plain)

-- event_hash
pub event_hash_is : (s : Text) (e u v d x : ℕ) → u ≡ hash_from 0 (part_at s (e + 1) 9) → v ≡ hash_from u (part_at s (e + 10) 1)
    → d ≡ hash_from v (part_at s (e + 12) 8) → x ≡ hash_from d (part_at s (e + 21) 15) → x ≡ event_hash s e
unfolding event_hash chart_event
event_hash_is s e u v d x a b c r =
    r ∙ ap (λ (n : ℕ). hash_from n (part_at s (e + 21) 15)) c ∙ sym (hash_append v (part_at s (e + 12) 8) (part_at s (e + 21) 15))
    ∙ ap (λ (n : ℕ). hash_from n (part_at s (e + 12) 8 ++ part_at s (e + 21) 15)) b
    ∙ sym (hash_append u (part_at s (e + 10) 1) (part_at s (e + 12) 8 ++ part_at s (e + 21) 15))
    ∙ ap (λ (n : ℕ). hash_from n (part_at s (e + 10) 1 ++ (part_at s (e + 12) 8 ++ part_at s (e + 21) 15))) a
    ∙ sym (hash_append 0 (part_at s (e + 1) 9) (part_at s (e + 10) 1 ++ (part_at s (e + 12) 8 ++ part_at s (e + 21) 15)))

pub ruleset for_event_hash = (rules, event_hash_is)
