-- Those that are alike: the firsts of a list, and the list brought together, by its first element.
-- Assumes nothing.
use mathlib.Core.Path.{◌≡◌, refl, sym, ap, ◌∙◌}
use mathlib.Core.Bool.{Bool, true, false, not, cond, ◌||◌}
use mathlib.Core.List.{List, [], ◌∷◌, ◌++◌}
use Rattle.house.specs.Text.{any, all, those, joined}
use Rattle.house.proofs.Small.{both, clash}
use Rattle.chart_definitions.specs.Lots.{firsts_after, firsts, together}
use Rattle.chart_definitions.proofs.TogetherLaws.{any_alike}

module _ {A : Type 0} where
  -- tests that say the same
  pub those_same : (p q : A → Bool) → ((z : A) → p z ≡ q z) → (xs : List A) → those p xs ≡ those q xs
  those_same p q e [] = refl
  those_same p q e (x ∷ xs) = rw (e x, those_same p q e xs)

  pub those_all : (p : A → Bool) (xs : List A) → all p xs ≡ true → those p xs ≡ xs
  those_all p [] e = refl
  those_all p (x ∷ xs) e = let k = both (p x) (all p xs) e in rw (k.0, those_all p xs k.1)

  pub those_append : (p : A → Bool) (xs ys : List A) → those p (xs ++ ys) ≡ those p xs ++ those p ys
  those_append p [] ys = refl
  those_append p (x ∷ xs) ys = go (p x) (those_append p xs ys)
    where
      go : (b : Bool) → those p (xs ++ ys) ≡ those p xs ++ those p ys → cond b (x ∷ those p (xs ++ ys)) (those p (xs ++ ys)) ≡ cond b (x ∷ those p xs) (those p xs) ++ those p ys
      go true e = ap (λ (l : List A). x ∷ l) e
      go false e = e

  pub all_those : (p : A → Bool) (xs : List A) → all p (those p xs) ≡ true
  all_those p [] = refl
  all_those p (x ∷ xs) = go (p x) refl (all_those p xs)
    where
      go : (b : Bool) → p x ≡ b → all p (those p xs) ≡ true → all p (cond b (x ∷ those p xs) (those p xs)) ≡ true
      go true e h = rw (e, h)
      go false e h = h

  -- of those that pass one test, those that pass another
  pub those_both : (p q r : A → Bool) → ((z : A) → cond (p z) (q z) false ≡ r z) → (xs : List A) → those q (those p xs) ≡ those r xs
  those_both p q r e [] = refl
  those_both p q r e (x ∷ xs) = go (p x) (q x) refl refl (sym (e x)) (those_both p q r e xs)
    where
      go : (a b : Bool) → p x ≡ a → q x ≡ b → r x ≡ cond (p x) (q x) false → those q (those p xs) ≡ those r xs
          → those q (cond a (x ∷ those p xs) (those p xs)) ≡ cond (r x) (x ∷ those r xs) (those r xs)
      go true true i j k h = rw (k, i, j, h)
      go true false i j k h = rw (k, i, j, h)
      go false b i j k h = rw (k, i, h)

  pub all_fewer : (p q : A → Bool) (xs : List A) → all p xs ≡ true → all p (those q xs) ≡ true
  all_fewer p q [] e = refl
  all_fewer p q (x ∷ xs) e = let k = both (p x) (all p xs) e in go (q x) k.0 (all_fewer p q xs k.1)
    where
      go : (b : Bool) → p x ≡ true → all p (those q xs) ≡ true → all p (cond b (x ∷ those q xs) (those q xs)) ≡ true
      go true i h = rw (i, h)
      go false i h = h

  pub none_those : (p : A → Bool) (xs : List A) → any p xs ≡ false → those p xs ≡ []
  none_those p [] e = refl
  none_those p (x ∷ xs) e = go (p x) e (none_those p xs)
    where
      go : (b : Bool) → b || any p xs ≡ false → (any p xs ≡ false → those p xs ≡ []) → cond b (x ∷ those p xs) (those p xs) ≡ []
      go true k h = clash (cc)
      go false k h = h k

  pub any_none : (p : A → Bool) (xs : List A) → all (λ (x : A). not (p x)) xs ≡ true → any p xs ≡ false
  any_none p [] e = refl
  any_none p (x ∷ xs) e = go (p x) (both (not (p x)) (all (λ (y : A). not (p y)) xs) e).0 (any_none p xs (both (not (p x)) (all (λ (y : A). not (p y)) xs) e).1)
    where
      go : (b : Bool) → not b ≡ true → any p xs ≡ false → b || any p xs ≡ false
      go true k h = clash (cc)
      go false k h = h

pub joined_same : {A B : Type 0} (f g : A → List B) (p : A → Bool) → ((x : A) → p x ≡ true → f x ≡ g x) → (xs : List A) → all p xs ≡ true → joined f xs ≡ joined g xs
joined_same f g p e [] h = refl
joined_same f g p e (x ∷ xs) h = let k = both (p x) (all p xs) h in rw (e x k.0, joined_same f g p e xs k.1)

-- LIKENESS

module _ {A : Type 0} (like : A → A → Bool)
    (symmetric : (x y : A) → like x y ≡ like y x)
    (transitive : (x y z : A) → like x y ≡ true → like y z ≡ true → like x z ≡ true) where
  -- two that are alike are like the same
  pub alike : (x y z : A) → like x y ≡ true → like x z ≡ like y z
  alike x y z e = go (like x z) (like y z) refl refl
    where
      go : (b c : Bool) → like x z ≡ b → like y z ≡ c → b ≡ c
      go true true p q = refl
      go false false p q = refl
      go true false p q = clash (cc (transitive y x z (symmetric y x ∙ e) p))
      go false true p q = clash (cc (transitive x y z e q))

  -- like none of these
  abbrev pub apart : List A → A → Bool
  apart before z = not (any (like z) before)

  -- the firsts, where some have gone before: the firsts of those that are like none of them
  pub firsts_apart : (b c d xs : List A) → ((z : A) → any (like z) b ≡ any (like z) c || any (like z) d) → firsts_after like b xs ≡ firsts_after like c (those (apart d) xs)
  firsts_apart b c d [] e = refl
  firsts_apart b c d (x ∷ xs) e =
      go (any (like x) d) refl (any (like x) c) refl
      (λ (h : any (like x) d ≡ true). firsts_apart (x ∷ b) c d xs (dropped h))
      (firsts_apart (x ∷ b) (x ∷ c) d xs stays)
    where
      dropped : any (like x) d ≡ true → (z : A) → like z x || any (like z) b ≡ any (like z) c || any (like z) d
      dropped h z = at (like z x) refl
        where
          end : (a : Bool) → true ≡ a || true
          end true = refl
          end false = refl

          at : (t : Bool) → like z x ≡ t → t || any (like z) b ≡ any (like z) c || any (like z) d
          at true q = rw (any_alike like symmetric transitive x z d q, h) (end (any (like z) c))
          at false q = e z

      stays : (z : A) → like z x || any (like z) b ≡ (like z x || any (like z) c) || any (like z) d
      stays z = at (like z x)
        where
          at : (t : Bool) → t || any (like z) b ≡ (t || any (like z) c) || any (like z) d
          at true = refl
          at false = e z

      go : (u : Bool) → any (like x) d ≡ u → (v : Bool) → any (like x) c ≡ v
          → (any (like x) d ≡ true → firsts_after like (x ∷ b) xs ≡ firsts_after like c (those (apart d) xs))
          → firsts_after like (x ∷ b) xs ≡ firsts_after like (x ∷ c) (those (apart d) xs)
          → cond (any (like x) b) (firsts_after like (x ∷ b) xs) (x ∷ firsts_after like (x ∷ b) xs)
          ≡ firsts_after like c (cond (not u) (x ∷ those (apart d) xs) (those (apart d) xs))
      go true p v q old new = rw (e x, p, q) (gone v)
        where
          gone : (w : Bool) → cond (w || true) (firsts_after like (x ∷ b) xs) (x ∷ firsts_after like (x ∷ b) xs) ≡ firsts_after like c (those (apart d) xs)
          gone true = old p
          gone false = old p
      go false p true q old new = rw (e x, p, q) new
      go false p false q old new = rw (e x, p, q) (ap (λ (l : List A). x ∷ l) new)

  -- not like x
  abbrev pub unlike : A → A → Bool
  unlike x z = not (like x z)

  apart_one : (x : A) (xs : List A) → those (apart (x ∷ [])) xs ≡ those (unlike x) xs
  apart_one x xs = those_same (apart (x ∷ [])) (unlike x) (λ z. rw (symmetric z x) (ap not (off (like x z)))) xs
    where
      off : (b : Bool) → b || false ≡ b
      off true = refl
      off false = refl

  pub firsts_first : (x : A) (xs : List A) → firsts like (x ∷ xs) ≡ x ∷ firsts like (those (unlike x) xs)
  firsts_first x xs = ap (λ (l : List A). x ∷ l) (firsts_apart (x ∷ []) [] (x ∷ []) xs (λ z. refl) ∙ ap (firsts like) (apart_one x xs))

  -- firsts are of the list
  pub all_firsts : (p : A → Bool) (b xs : List A) → all p xs ≡ true → all p (firsts_after like b xs) ≡ true
  all_firsts p b [] e = refl
  all_firsts p b (x ∷ xs) e = let k = both (p x) (all p xs) e in go (any (like x) b) k.0 (all_firsts p (x ∷ b) xs k.1)
    where
      go : (t : Bool) → p x ≡ true → all p (firsts_after like (x ∷ b) xs) ≡ true → all p (cond t (firsts_after like (x ∷ b) xs) (x ∷ firsts_after like (x ∷ b) xs)) ≡ true
      go true i h = h
      go false i h = rw (i, h)

  -- the lots of an event that is not that of x
  pub those_unlike : (x y : A) (xs : List A) → like x y ≡ false → those (like y) (those (unlike x) xs) ≡ those (like y) xs
  those_unlike x y xs e = those_both (unlike x) (like y) (like y) (λ z. at z (like x z) refl) xs
    where
      at : (z : A) (b : Bool) → like x z ≡ b → cond (not b) (like y z) false ≡ like y z
      at z false q = refl
      at z true q = not_like (like y z) refl
        where
          not_like : (c : Bool) → like y z ≡ c → false ≡ c
          not_like false k = refl
          not_like true k = clash (cc (transitive x z y q (symmetric z y ∙ k)))

  -- brought together: those like the first, and then the others
  pub together_first : (x : A) (xs : List A) → like x x ≡ true → together like (x ∷ xs) ≡ (x ∷ those (like x) xs) ++ together like (those (unlike x) xs)
  together_first x xs self =
      ap (joined (λ (y : A). those (like y) (x ∷ xs))) (firsts_first x xs)
      ∙ rw self (ap (λ (l : List A). x ∷ (those (like x) xs ++ l)) others)
    where
      other : (y : A) → unlike x y ≡ true → those (like y) (x ∷ xs) ≡ those (like y) (those (unlike x) xs)
      other y u = rw (symmetric y x, off (like x y) u) (sym (those_unlike x y xs (off (like x y) u)))
        where
          off : (b : Bool) → not b ≡ true → b ≡ false
          off true h = clash (cc)
          off false h = refl

      others : joined (λ (y : A). those (like y) (x ∷ xs)) (firsts like (those (unlike x) xs)) ≡ together like (those (unlike x) xs)
      others =
          joined_same (λ (y : A). those (like y) (x ∷ xs)) (λ (y : A). those (like y) (those (unlike x) xs)) (unlike x) other (firsts like (those (unlike x) xs))
          (all_firsts (unlike x) [] (those (unlike x) xs) (all_those (unlike x) xs))
