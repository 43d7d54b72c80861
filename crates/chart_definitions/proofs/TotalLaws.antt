-- A total over a list: each element has a weight. The number of elements, the number of those that pass a test, and lengths of texts are such.
-- Assumes nothing.
use Prim.Native.Nat.{ℕ, zero, suc, ◌+◌}
use native.Mathlib.Omega.{arith}
use mathlib.Core.Path.{◌≡◌, refl, sym, ap, ◌∙◌}
use mathlib.Core.Bool.{Bool, true, false, not, cond, ◌&&◌}
use mathlib.Core.List.{List, [], ◌∷◌, ◌++◌}
use lib.ListN.{length, length-append}
use Rattle.house.specs.Text.{all, those, how_many, joined, is_empty}

module _ {A : Type 0} where
  -- the weights of all elements, added up
  abbrev pub total : (A → ℕ) → List A → ℕ
  total f [] = 0
  total f (x ∷ xs) = f x + total f xs

module _ {A : Type 0} (f : A → ℕ) where
  pub total_append : (xs ys : List A) → total f (xs ++ ys) ≡ total f xs + total f ys
  total_append [] ys = omega arith
  total_append (x ∷ xs) ys = omega (arith, total_append xs ys)

  pub total_same : (g : A → ℕ) → ((x : A) → f x ≡ g x) → (xs : List A) → total f xs ≡ total g xs
  total_same g e [] = refl
  total_same g e (x ∷ xs) = omega (arith, e x, total_same g e xs)

  pub total_add : (g h : A → ℕ) → ((x : A) → f x + g x ≡ h x) → (xs : List A) → total f xs + total g xs ≡ total h xs
  total_add g h e [] = refl
  total_add g h e (x ∷ xs) = omega (arith, e x, total_add g h e xs)

  -- of those that pass a test: the others weigh nothing
  pub total_those : (p : A → Bool) (xs : List A) → total f (those p xs) ≡ total (λ (x : A). cond (p x) (f x) 0) xs
  total_those p [] = refl
  total_those p (x ∷ xs) = go (p x) (total_those p xs)
    where
      go : (b : Bool) → total f (those p xs) ≡ total (λ (y : A). cond (p y) (f y) 0) xs
          → total f (cond b (x ∷ those p xs) (those p xs)) ≡ cond b (f x) 0 + total (λ (y : A). cond (p y) (f y) 0) xs
      go true e = omega arith
      go false e = omega arith

-- of lists put one after the other
pub total_joined : {A B : Type 0} (f : B → ℕ) (g : A → List B) (xs : List A) → total f (joined g xs) ≡ total (λ (x : A). total f (g x)) xs
total_joined f g [] = refl
total_joined f g (x ∷ xs) = omega (arith, total_append f (g x) (joined g xs), total_joined f g xs)

-- whether a number is nothing
abbrev pub is_none : ℕ → Bool
is_none zero = true
is_none (suc n) = false

module _ {A : Type 0} where
  abbrev pub one : A → ℕ
  one x = 1

  abbrev pub one_if : (A → Bool) → A → ℕ
  one_if p x = cond (p x) 1 0

  pub total_length : (xs : List A) → length xs ≡ total one xs
  total_length [] = refl
  total_length (x ∷ xs) = omega (arith, total_length xs)

  pub total_many : (p : A → Bool) (xs : List A) → how_many p xs ≡ total (one_if p) xs
  total_many p [] = refl
  total_many p (x ∷ xs) = go (p x) (total_many p xs)
    where
      go : (b : Bool) → how_many p xs ≡ total (one_if p) xs → cond b (suc (how_many p xs)) (how_many p xs) ≡ cond b 1 0 + total (one_if p) xs
      go true e = omega arith
      go false e = omega arith

  -- all pass a test if none fails it
  pub all_none : (p : A → Bool) (xs : List A) → all p xs ≡ is_none (how_many (λ (x : A). not (p x)) xs)
  all_none p [] = refl
  all_none p (x ∷ xs) = go (p x) (all_none p xs)
    where
      go : (b : Bool) → all p xs ≡ is_none (how_many (λ (y : A). not (p y)) xs)
          → b && all p xs ≡ is_none (cond (not b) (suc (how_many (λ (y : A). not (p y)) xs)) (how_many (λ (y : A). not (p y)) xs))
      go true e = e
      go false e = refl

  pub empty_none : (xs : List A) → is_empty xs ≡ is_none (length xs)
  empty_none [] = refl
  empty_none (x ∷ xs) = refl

pub length_joined : {A B : Type 0} (g : A → List B) (xs : List A) → length (joined g xs) ≡ total (λ (x : A). length (g x)) xs
length_joined g [] = refl
length_joined g (x ∷ xs) = omega (arith, length-append (g x) (joined g xs), length_joined g xs)

-- Two lists of one total for every weight have one length, as many that pass a test, and pass it both or neither
module _ {A : Type 0} (xs ys : List A) (e : (f : A → ℕ) → total f xs ≡ total f ys) where
  pub length_by_total : length xs ≡ length ys
  length_by_total = total_length xs ∙ e one ∙ sym (total_length ys)

  pub many_by_total : (p : A → Bool) → how_many p xs ≡ how_many p ys
  many_by_total p = total_many p xs ∙ e (one_if p) ∙ sym (total_many p ys)

  pub all_by_total : (p : A → Bool) → all p xs ≡ all p ys
  all_by_total p = all_none p xs ∙ ap is_none (many_by_total (λ (x : A). not (p x))) ∙ sym (all_none p ys)

  pub empty_by_total : is_empty xs ≡ is_empty ys
  empty_by_total = empty_none xs ∙ ap is_none length_by_total ∙ sym (empty_none ys)
