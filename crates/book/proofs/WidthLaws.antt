-- Widths by kind, and what each need of the functions that go by a table asks.
-- Assumes nothing.
use mathlib.Core.Path.{◌≡◌, refl}
use Prim.Native.Nat.{ℕ, zero, suc, ◌+◌, ◌≤◌, ◌<◌}
use native.Mathlib.Omega.{arith}
use borrow.Author.Tests.{ne_eqb}
use borrow.Author.Rules.{rules}
use Rattle.book.specs.Book.{first_width, second_width, start_width, code_width, body_width}

-- a width by its kind, and of the kinds that have none
module _ (k : ℕ) where
  pub first_at : (v w : ℕ) → k ≡ v → w ≡ first_width v → w ≡ first_width k
  first_at v w e h = rw e h

  pub second_at : (v w : ℕ) → k ≡ v → w ≡ second_width v → w ≡ second_width k
  second_at v w e h = rw e h

  pub first_none : (k ≡ 1 → ⊥) → (k ≡ 2 → ⊥) → (k ≡ 3 → ⊥) → (k ≡ 4 → ⊥) → (k ≡ 5 → ⊥) → (k ≡ 6 → ⊥) → (k ≡ 7 → ⊥) → (k ≡ 8 → ⊥) → 0 ≡ first_width k
  unfolding first_width
  first_none a b c d e f g h = simp (ne_eqb _ _ a, ne_eqb _ _ b, ne_eqb _ _ c, ne_eqb _ _ d, ne_eqb _ _ e, ne_eqb _ _ f, ne_eqb _ _ g, ne_eqb _ _ h)

  pub second_none : (k ≡ 7 → ⊥) → (k ≡ 8 → ⊥) → 0 ≡ second_width k
  unfolding second_width
  second_none a b = simp (ne_eqb _ _ a, ne_eqb _ _ b)

  pub start_one : k ≡ 1 → 8 ≡ start_width k
  unfolding start_width
  start_one e = rw e

  pub start_none : (k ≡ 1 → ⊥) → 0 ≡ start_width k
  unfolding start_width
  start_none a = simp (ne_eqb _ _ a)

  pub code_sum : (a b : ℕ) → a ≡ first_width k → b ≡ second_width k → a + b ≡ code_width k
  unfolding code_width
  code_sum a b p q = rw (p, q)

  pub body_sum : (a b : ℕ) → a ≡ code_width k → b ≡ start_width k → a + b + 8 ≡ body_width k
  unfolding body_width
  body_sum a b p q = rw (p, q)

  -- a part and its whole
  pub code_parts : code_width k ≡ first_width k + second_width k
  unfolding code_width
  code_parts = refl

  pub body_parts : body_width k ≡ code_width k + start_width k + 8
  unfolding body_width
  body_parts = refl

pub ruleset for_widths = (rules, first_at, first_none, second_at, second_none, start_one, start_none, code_sum, body_sum)

-- what holds of each known kind
pub by_kind : (P : ℕ → Type 0) → P 1 → P 2 → P 3 → P 4 → P 5 → P 6 → P 7 → P 8 → (k : ℕ) → 1 ≤ k → k ≤ 8 → P k
by_kind P a b c d e f g h zero l m = absurd (omega arith)
by_kind P a b c d e f g h (suc zero) l m = a
by_kind P a b c d e f g h (suc (suc zero)) l m = b
by_kind P a b c d e f g h (suc (suc (suc zero))) l m = c
by_kind P a b c d e f g h (suc (suc (suc (suc zero)))) l m = d
by_kind P a b c d e f g h (suc (suc (suc (suc (suc zero))))) l m = e
by_kind P a b c d e f g h (suc (suc (suc (suc (suc (suc zero)))))) l m = f
by_kind P a b c d e f g h (suc (suc (suc (suc (suc (suc (suc zero))))))) l m = g
by_kind P a b c d e f g h (suc (suc (suc (suc (suc (suc (suc (suc zero)))))))) l m = h
by_kind P a b c d e f g h (suc (suc (suc (suc (suc (suc (suc (suc (suc n))))))))) l m = absurd (omega arith)

-- the code of a known kind is not empty
pub code_pos : (k : ℕ) → 1 ≤ k → k ≤ 8 → 0 < code_width k
unfolding code_width first_width second_width
code_pos = by_kind (λ (k : ℕ). 0 < code_width k) (omega arith) (omega arith) (omega arith) (omega arith) (omega arith) (omega arith) (omega arith) (omega arith)
