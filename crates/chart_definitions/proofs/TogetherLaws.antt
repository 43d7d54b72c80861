-- What is brought together is what was there: every total is the same.
-- Assumes nothing.
use Prim.Native.Nat.{ℕ, ◌+◌}
use native.Mathlib.Omega.{arith}
use mathlib.Core.Path.{◌≡◌, refl, sym, ◌∙◌}
use mathlib.Core.Bool.{Bool, true, false, not, cond, ◌&&◌, ◌||◌}
use mathlib.Core.List.{List, [], ◌∷◌}
use lib.ListN.{length}
use Rattle.house.specs.Text.{any, all, those, how_many, joined}
use Rattle.house.proofs.Small.{both, clash}
use Rattle.chart_definitions.specs.Lots.{firsts_after, together}
use Rattle.chart_definitions.proofs.TotalLaws.{total, total_append, total_same, total_add, total_those, length_by_total, many_by_total, all_by_total}

-- An element is like those of its class; one that is not like itself is in none
module _ {A : Type 0} (like : A → A → Bool)
    (symmetric : (x y : A) → like x y ≡ like y x)
    (transitive : (x y z : A) → like x y ≡ true → like y z ≡ true → like x z ≡ true) where
  -- two that are alike are like the same
  any_one : (x z : A) (ys : List A) → like z x ≡ true → any (like x) ys ≡ true → any (like z) ys ≡ true
  any_one x z [] e h = clash (cc)
  any_one x z (y ∷ ys) e h = go (like x y) refl (like z y) refl (any_one x z ys e) h
    where
      go : (b : Bool) → like x y ≡ b → (c : Bool) → like z y ≡ c → (any (like x) ys ≡ true → any (like z) ys ≡ true) → b || any (like x) ys ≡ true → c || any (like z) ys ≡ true
      go b p true q rec k = refl
      go true p false q rec k = clash (cc (transitive z x y e p))
      go false p false q rec k = rec k

  pub any_alike : (x z : A) (ys : List A) → like z x ≡ true → any (like z) ys ≡ any (like x) ys
  any_alike x z ys e = go (any (like z) ys) (any (like x) ys) refl refl
    where
      go : (b c : Bool) → any (like z) ys ≡ b → any (like x) ys ≡ c → b ≡ c
      go true true p q = refl
      go false false p q = refl
      go true false p q = clash (cc (any_one z x ys (symmetric x z ∙ e) p))
      go false true p q = clash (cc (any_one x z ys e q))

  -- z is like one of the first list, and like none of the second
  abbrev new : List A → List A → A → Bool
  new xs before z = any (like z) xs && not (any (like z) before)

  module _ (f : A → ℕ) (zs : List A) where
    abbrev weight : (A → Bool) → A → ℕ
    weight p z = cond (p z) (f z) 0

    -- what is brought behind firsts
    pub firsts_total : (before xs : List A) → total f (joined (λ (x : A). those (like x) zs) (firsts_after like before xs)) ≡ total (weight (new xs before)) zs
    firsts_total before [] = sym (none zs)
      where
        none : (ys : List A) → total (λ (z : A). 0) ys ≡ 0
        none [] = refl
        none (y ∷ ys) = omega (arith, none ys)
    firsts_total before (x ∷ xs) = go (any (like x) before) refl (firsts_total (x ∷ before) xs)
      where
        old : any (like x) before ≡ true → (z : A) → weight (new xs (x ∷ before)) z ≡ weight (new (x ∷ xs) before) z
        old h z = at (like z x) refl
          where
            at : (b : Bool) → like z x ≡ b → cond (any (like z) xs && not (b || any (like z) before)) (f z) 0 ≡ cond ((b || any (like z) xs) && not (any (like z) before)) (f z) 0
            at true e = rw (any_alike x z before e ∙ h) (off (any (like z) xs))
              where
                off : (b : Bool) → cond (b && false) (f z) 0 ≡ 0
                off true = refl
                off false = refl
            at false e = refl

        fresh : any (like x) before ≡ false → (z : A) → weight (like x) z + weight (new xs (x ∷ before)) z ≡ weight (new (x ∷ xs) before) z
        fresh h z = rw (symmetric x z) (at (like z x) refl)
          where
            at : (b : Bool) → like z x ≡ b → cond b (f z) 0 + cond (any (like z) xs && not (b || any (like z) before)) (f z) 0 ≡ cond ((b || any (like z) xs) && not (any (like z) before)) (f z) 0
            at true e = rw (any_alike x z before e ∙ h) (off (any (like z) xs))
              where
                off : (b : Bool) → f z + cond (b && false) (f z) 0 ≡ f z
                off true = omega arith
                off false = omega arith
            at false e = omega arith

        go : (b : Bool) → any (like x) before ≡ b
            → total f (joined (λ (y : A). those (like y) zs) (firsts_after like (x ∷ before) xs)) ≡ total (weight (new xs (x ∷ before))) zs
            → total f (joined (λ (y : A). those (like y) zs) (cond b (firsts_after like (x ∷ before) xs) (x ∷ firsts_after like (x ∷ before) xs))) ≡ total (weight (new (x ∷ xs) before)) zs
        go true e r = r ∙ total_same (weight (new xs (x ∷ before))) (weight (new (x ∷ xs) before)) (old e) zs
        go false e r =
            total_append f (those (like x) zs) (joined (λ (y : A). those (like y) zs) (firsts_after like (x ∷ before) xs))
            ∙ rw (r, total_those f (like x) zs) (total_add (weight (like x)) (weight (new xs (x ∷ before))) (weight (new (x ∷ xs) before)) (fresh e) zs)

  -- each member of a list is like one of it, if like itself
  whole : (f : A → ℕ) (ys xs : List A) → ((z : A) → any (like z) ys ≡ true → any (like z) xs ≡ true) → all (λ (x : A). like x x) ys ≡ true
      → total (weight f xs (new xs [])) ys ≡ total f ys
  whole f [] xs sub s = refl
  whole f (y ∷ ys) xs sub s =
      let k = both (like y y) (all (λ (x : A). like x x) ys) s in
      let i : any (like y) xs ≡ true = sub y (rw k.0) in
      rw i (omega (arith, whole f ys xs (λ z h. sub z (later (like z y) (any (like z) ys) h)) k.1))
    where
      later : (a b : Bool) → b ≡ true → a || b ≡ true
      later true b h = refl
      later false b h = h

  module _ (xs : List A) (self : all (λ (x : A). like x x) xs ≡ true) where
    pub together_total : (f : A → ℕ) → total f (together like xs) ≡ total f xs
    together_total f = firsts_total f xs [] xs ∙ whole f xs xs (λ z h. h) self

    pub together_length : length (together like xs) ≡ length xs
    together_length = length_by_total (together like xs) xs together_total

    pub together_many : (p : A → Bool) → how_many p (together like xs) ≡ how_many p xs
    together_many p = many_by_total (together like xs) xs together_total p

    pub together_all : (p : A → Bool) → all p (together like xs) ≡ all p xs
    together_all p = all_by_total (together like xs) xs together_total p
