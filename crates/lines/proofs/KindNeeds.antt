-- What each need of `kind_of` asks.
-- Assumes nothing.
use mathlib.Core.Path.{◌≡◌, refl, sym, ◌∙◌}
use mathlib.Core.Bool.{Bool, true, false, cond}
use mathlib.Core.List.{List, [], ◌∷◌}
use Prim.Native.Nat.{ℕ, ◌≤◌, ◌<◌}
use Prim.Native.Char.{code}
use native.Mathlib.Omega.{arith}
use borrow.Author.Rules.{rules}
use borrow.Author.Tests.{eq-eqb, ne_eqb, eqb-true}
use lib.Dec.{eqb}
use lib.ListN.{length, get_or}
use Rattle.house.specs.Text.{Text}
use Rattle.lines_fields.specs.Lines.{pipe, lengthen, fields_of}
use Rattle.lines.specs.Records.{letter_kind, kind_of, record_of}

-- kind_of: the kind by the first three bytes
letter_pipe : letter_kind pipe ≡ 0
unfolding letter_kind
letter_pipe = refl

pub kind_short : (t : Text) → length t < 3 → 0 ≡ record_of t
unfolding record_of fields_of lengthen kind_of
kind_short [] h = refl
kind_short (a ∷ []) h = go (eqb a pipe)
  where
    go : (x : Bool) → 0 ≡ kind_of (get_or (cond x ([] ∷ []) []) 0 [])
    go true = refl
    go false = refl
kind_short (a ∷ b ∷ []) h = go (eqb a pipe) (eqb b pipe)
  where
    go : (x y : Bool) → 0 ≡ kind_of (get_or (cond x ([] ∷ fields_of (b ∷ [])) (lengthen a (cond y ([] ∷ []) []))) 0 [])
    go true y = refl
    go false true = refl
    go false false = refl
kind_short (a ∷ b ∷ c ∷ s) h = absurd (omega arith)

abbrev by_three : ℕ → ℕ → ℕ → ℕ
by_three a b c = cond (eqb a (code "I")) (cond (eqb c pipe) (letter_kind b) 0) 0

kind_three : (a b c : ℕ) (s : Text) → record_of (a ∷ b ∷ c ∷ s) ≡ by_three a b c
unfolding record_of fields_of lengthen kind_of
kind_three a b c s = go (eqb a pipe) (eqb b pipe) (eqb c pipe) refl refl refl
  where
    zeros : (x y : Bool) → ◌≡◌ {A = ℕ} (cond x (cond y 0 0) 0) 0
    zeros true true = refl
    zeros true false = refl
    zeros false y = refl

    long : (fs : List Text) → kind_of (get_or (lengthen a (lengthen b (lengthen c fs))) 0 []) ≡ 0
    long [] = refl
    long (f ∷ fs) = refl

    go : (x y z : Bool) → eqb a pipe ≡ x → eqb b pipe ≡ y → eqb c pipe ≡ z → record_of (a ∷ b ∷ c ∷ s) ≡ by_three a b c
    go true y z p q r = rw (eqb-true a pipe p)
    go false true z p q r = simp (p, eqb-true b pipe q, letter_pipe) (sym (zeros (eqb a (code "I")) (eqb c pipe)))
    go false false true p q r = simp (p, q, r)
    go false false false p q r = simp (p, q, r) (long (fields_of s) ∙ sym (zeros (eqb a (code "I")) true))

kind_is : (t : Text) → 3 ≤ length t → record_of t ≡ by_three (get_or t 0 0) (get_or t 1 0) (get_or t 2 0)
kind_is [] h = absurd (omega arith)
kind_is (a ∷ []) h = absurd (omega arith)
kind_is (a ∷ b ∷ []) h = absurd (omega arith)
kind_is (a ∷ b ∷ c ∷ s) h = kind_three a b c s

module _ (t : Text) (h : 3 ≤ length t) where
  pub kind_other : (get_or t 0 0 ≡ code "I" → ⊥) → 0 ≡ record_of t
  kind_other n = simp (kind_is t h, ne_eqb _ _ n)

  pub kind_open : get_or t 0 0 ≡ code "I" → (get_or t 2 0 ≡ pipe → ⊥) → 0 ≡ record_of t
  kind_open e n = simp (kind_is t h, eq-eqb _ _ e, ne_eqb _ _ n)

  pub kind_two : (k : ℕ) → get_or t 0 0 ≡ code "I" → get_or t 2 0 ≡ pipe → k ≡ letter_kind (get_or t 1 0) → k ≡ record_of t
  kind_two k e n g = simp (g, kind_is t h, eq-eqb _ _ e, eq-eqb _ _ n)

pub ruleset for_kind_of = (rules, kind_short, kind_other, kind_open, kind_two)
