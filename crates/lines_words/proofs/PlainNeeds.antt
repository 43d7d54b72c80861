-- What each need of fields that are compared as they stand asks.
-- Assumes nothing.
use mathlib.Core.Path.{◌≡◌, refl, sym, ap, ◌∙◌}
use mathlib.Core.Bool.{Bool, true, false, cond, ◌&&◌}
use mathlib.Core.List.{[], ◌∷◌}
use Prim.Native.Nat.{ℕ, zero, suc, ◌+◌, ◌-◌, ◌≤◌, ◌<◌}
use native.Mathlib.Omega.{arith}
use borrow.Author.Rules.{rules}
use borrow.Author.Tests.{eq-eqb, ne_eqb, eqb-true, eqb-false, lt-ltb, le-ltb, ltb-true, le-leb, lt-leb, leb-true}
use lib.Dec.{eqb, ltb, leb}
use lib.ListN.{length, get_or, take, drop, length-drop}
use lib.Seq.{length-take-le}
use Rattle.house.specs.Text.{Text, order_of, after_front, is_blank, is_empty, pad}
use Rattle.std.specs.declared.cmp.Ordering.{Ordering}
use Rattle.house.proofs.Small.{clash}
use Rattle.house.proofs.Suffix.{drop_here}
use Rattle.blanks.specs.Blanks.{without_last_blanks, trimmed}
use Rattle.lines_words.specs.Words.{part_at}
use Rattle.lines_words.specs.Inside.{plain_at}

-- plain_from
module _ (s : Text) (at w : ℕ) where
  pub plain_past : length s ≤ at → [] ≡ plain_at s at w
  unfolding plain_at
  plain_past h = rw (le-ltb at (length s) h)

  module _ (h : at < length s) where
    pub plain_short : length s - at < w → [] ≡ plain_at s at w
    unfolding plain_at
    plain_short k = rw (lt-ltb at (length s) h, lt-leb w (length s - at) k)

    module _ (k : w ≤ length s - at) where
      pub plain_blank : get_or s at 0 ≡ 32 → [] ≡ plain_at s at w
      unfolding plain_at
      plain_blank e = rw (lt-ltb at (length s) h, le-leb w (length s - at) k, eq-eqb (get_or s at 0) 32 e)

      pub plain_is : (get_or s at 0 ≡ 32 → ⊥) → take (at + w - at) (drop at s) ≡ plain_at s at w
      unfolding plain_at
      plain_is n =
          let e : at + w - at ≡ w = omega arith in
          rw (lt-ltb at (length s) h, le-leb w (length s - at) k, ne_eqb (get_or s at 0) 32 n, e)

pub ruleset for_plain_from = (rules, plain_past, plain_short, plain_blank, plain_is)

-- part_order

-- the blanks that were dropped come again
padded_again : (t : Text) → pad (length t) (without_last_blanks t) ≡ t
unfolding pad without_last_blanks
padded_again [] = refl
padded_again (b ∷ t) = go (eqb b 32) refl (is_empty (without_last_blanks t)) refl (padded_again t)
  where
    none : (u : Text) → is_empty u ≡ true → u ≡ []
    none [] e = refl
    none (c ∷ u) e = clash (cc)

    go : (x : Bool) → eqb b 32 ≡ x → (y : Bool) → is_empty (without_last_blanks t) ≡ y → pad (length t) (without_last_blanks t) ≡ t
        → pad (suc (length t)) (cond (x && y) [] (b ∷ without_last_blanks t)) ≡ b ∷ t
    go true e true f r =
        let m : b ≡ 32 = eqb-true b 32 e in
        let z : pad (length t) [] ≡ t = ap (pad (length t)) (sym (none (without_last_blanks t) f)) ∙ r in
        rw m (ap (λ (u : Text). 32 ∷ u) z)
    go true e false f r = ap (λ (u : Text). b ∷ u) r
    go false e y f r = ap (λ (u : Text). b ∷ u) r

first_stays : (t : Text) (b : ℕ) → (b ≡ 32 → ⊥) → without_last_blanks (b ∷ t) ≡ b ∷ without_last_blanks t
unfolding without_last_blanks
first_stays t b n = rw (ne_eqb b 32 n)

trimmed_first : (t : Text) (b : ℕ) → (b ≡ 32 → ⊥) → trimmed (b ∷ t) ≡ b ∷ without_last_blanks t
unfolding trimmed
trimmed_first t b n = ap (after_front is_blank) (first_stays t b n) ∙ rw (ne_eqb b 32 n)

raw_is : (t : Text) (b : ℕ) → (b ≡ 32 → ⊥) → pad (suc (length t)) (trimmed (b ∷ t)) ≡ b ∷ t
unfolding pad
raw_is t b n = ap (pad (suc (length t))) (trimmed_first t b n) ∙ ap (λ (u : Text). b ∷ u) (padded_again t)

-- so a field that does not begin with a blank is as it stands
as_it_stands : (s : Text) (at w : ℕ) → at < length s → w ≤ length s - at → (get_or s at 0 ≡ 32 → ⊥) → take w (drop at s) ≡ part_at s at w
unfolding part_at pad
as_it_stands s at zero h k n = refl
as_it_stands s at (suc v) h k n =
    let l : length (take v (drop (at + 1) s)) ≡ v = length-take-le v (drop (at + 1) s) (omega (arith, length-drop (at + 1) s)) in
    rw (drop_here s at h)
    (sym (ap (λ (m : ℕ). pad (suc m) (trimmed (get_or s at 0 ∷ take v (drop (at + 1) s)))) (sym l) ∙ raw_is (take v (drop (at + 1) s)) (get_or s at 0) n))

pub plain_part : (s : Text) (at w : ℕ) (a : Text) → a ≡ plain_at s at w → (length a ≡ 0 → ⊥) → a ≡ part_at s at w
unfolding plain_at
plain_part s at w a e n = go (ltb at (length s)) refl (leb w (length s - at)) refl (eqb (get_or s at 0) 32) refl e
  where
    go : (x : Bool) → ltb at (length s) ≡ x → (y : Bool) → leb w (length s - at) ≡ y → (z : Bool) → eqb (get_or s at 0) 32 ≡ z
        → a ≡ cond x (cond y (cond z [] (take w (drop at s))) []) [] → a ≡ part_at s at w
    go true p true q false r f = f ∙ as_it_stands s at w (ltb-true at (length s) p) (leb-true w (length s - at) q) (eqb-false (get_or s at 0) 32 r)
    go true p true q true r f = absurd (n (ap length f))
    go true p false q z r f = absurd (n (ap length f))
    go false p y q z r f = absurd (n (ap length f))

pub plain_stand : (s a b : Text) (p q w : ℕ) (o : Ordering) → a ≡ plain_at s p w → (length a ≡ 0 → ⊥) → b ≡ plain_at s q w → (length b ≡ 0 → ⊥) → o ≡ order_of a b
    → o ≡ order_of (part_at s p w) (part_at s q w)
plain_stand s a b p q w o x m y n r = rw (← plain_part s p w a x m, ← plain_part s q w b y n) r

pub ruleset for_part_order = (rules, plain_stand)
