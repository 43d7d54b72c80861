-- Members: of lists put together, of those that pass a test, of what a function gives.
-- Assumes nothing.
use mathlib.Core.Path.{◌≡◌, refl, sym, ap, ◌∙◌, subst}
use mathlib.Core.Bool.{Bool, true, false, cond, ◌&&◌}
use mathlib.Core.Logic.{◌⊎◌, inl, inr, ⊎_elim}
use mathlib.Core.List.{List, [], ◌∷◌, ◌++◌, map}
use lib.Dec.{T}
use Prim.Native.Nat.{suc, ◌+◌}
use native.Mathlib.Omega.{arith}
use Rattle.house.specs.Text.{any, all, those, how_many, joined}
use Rattle.house.specs.Members.{In, Distinct, Rising}
use Rattle.house.proofs.Facts.{both, left_of, right_of, of_true}

module _ {A : Type 0} where
  pub in_cases : (x : A) (xs ys : List A) → In x (xs ++ ys) → In x xs ⊎ In x ys
  in_cases x [] ys m = inr m
  in_cases x (z ∷ xs) ys (inl e) = inl (inl e)
  in_cases x (z ∷ xs) ys (inr m) = ⊎_elim (λ k. inl (inr k)) (λ k. inr k) (in_cases x xs ys m)

  pub in_left : (x : A) (xs ys : List A) → In x xs → In x (xs ++ ys)
  in_left x [] ys m = absurd m
  in_left x (z ∷ xs) ys (inl e) = inl e
  in_left x (z ∷ xs) ys (inr m) = inr (in_left x xs ys m)

  pub in_right : (x : A) (xs ys : List A) → In x ys → In x (xs ++ ys)
  in_right x [] ys m = m
  in_right x (z ∷ xs) ys m = inr (in_right x xs ys m)

module _ {A B : Type 0} (f : A → List B) where
  pub in_joined : (y : B) (xs : List A) → In y (joined f xs) → (x : A) × In x xs × In y (f x)
  in_joined y [] m = absurd m
  in_joined y (x ∷ xs) m =
      ⊎_elim (λ k. (x, inl refl, k)) (λ k. let r = in_joined y xs k in (r.0, inr r.1, r.2)) (in_cases y (f x) (joined f xs) m)

  pub joined_in : (x : A) (y : B) (xs : List A) → In x xs → In y (f x) → In y (joined f xs)
  joined_in x y [] m k = absurd m
  joined_in x y (z ∷ xs) (inl e) k = in_left y (f z) (joined f xs) (subst (λ (w : A). In y (f w)) e k)
  joined_in x y (z ∷ xs) (inr m) k = in_right y (f z) (joined f xs) (joined_in x y xs m k)

module _ {A : Type 0} (p : A → Bool) where
  pub in_those : (x : A) (xs : List A) → In x (those p xs) → In x xs × T (p x)
  in_those x [] m = absurd m
  in_those x (z ∷ xs) m = go (in_those x xs) (p z) refl m
    where
      go : (In x (those p xs) → In x xs × T (p x)) → (b : Bool) → p z ≡ b → In x (cond b (z ∷ those p xs) (those p xs)) → In x (z ∷ xs) × T (p x)
      go rec true e (inl q) = (inl q, subst (λ (w : A). T (p w)) (sym q) (of_true (p z) e))
      go rec true e (inr k) = (inr (rec k).0, (rec k).1)
      go rec false e k = (inr (rec k).0, (rec k).1)

  pub those_in : (x : A) (xs : List A) → In x xs → T (p x) → In x (those p xs)
  those_in x [] m t = absurd m
  those_in x (z ∷ xs) m t = go (λ (k : In x xs). those_in x xs k t) (p z) refl m
    where
      go : (In x xs → In x (those p xs)) → (b : Bool) → p z ≡ b → In x (z ∷ xs) → In x (cond b (z ∷ those p xs) (those p xs))
      go rec true e (inl q) = inl q
      go rec true e (inr k) = inr (rec k)
      go rec false e (inl q) = absurd (subst T (ap p q ∙ e) t)
      go rec false e (inr k) = rec k

pub distinct_those : {A : Type 0} (p : A → Bool) (xs : List A) → Distinct xs → Distinct (those p xs)
distinct_those p [] d = tt
distinct_those {A} p (x ∷ xs) d = go (distinct_those p xs d.1) (p x)
  where
    go : Distinct (those p xs) → (b : Bool) → Distinct (cond b (x ∷ those p xs) (those p xs))
    go rest true = ((λ m. d.0 (in_those p x xs m).0), rest)
    go rest false = rest

pub in_map : {A B : Type 0} (f : A → B) (y : B) (xs : List A) → In y (map f xs) → (x : A) × In x xs × (y ≡ f x)
in_map f y [] m = absurd m
in_map f y (x ∷ xs) (inl e) = (x, inl refl, e)
in_map f y (x ∷ xs) (inr m) = let r = in_map f y xs m in (r.0, inr r.1, r.2)

pub map_in : {A B : Type 0} (f : A → B) (x : A) (xs : List A) → In x xs → In (f x) (map f xs)
map_in f x [] m = absurd m
map_in f x (z ∷ xs) (inl e) = inl (ap f e)
map_in f x (z ∷ xs) (inr m) = inr (map_in f x xs m)

pub all_in_lem : {A : Type 0} (p : A → Bool) (x : A) (xs : List A) → T (all p xs) → In x xs → T (p x)
all_in_lem p x [] t m = absurd m
all_in_lem {A} p x (z ∷ xs) t (inl e) = subst (λ (w : A). T (p w)) (sym e) (both (p z) (all p xs) t).0
all_in_lem p x (z ∷ xs) t (inr m) = all_in_lem p x xs (both (p z) (all p xs) t).1 m

pub any_in : {A : Type 0} (p : A → Bool) (x : A) (xs : List A) → In x xs → T (p x) → T (any p xs)
any_in p x [] m t = absurd m
any_in {A} p x (z ∷ xs) (inl e) t = left_of (p z) (any p xs) (subst (λ (w : A). T (p w)) e t)
any_in p x (z ∷ xs) (inr m) t = right_of (p z) (any p xs) (any_in p x xs m t)

-- Of those that pass a test, no two give the same

module _ {A B : Type 0} (f : A → B) (p : A → Bool) where
  -- so it is for a test that passes fewer
  pub distinct_fewer : (q : A → Bool) → ((x : A) → T (q x) → T (p x)) → (xs : List A) → Distinct (map f (those p xs)) → Distinct (map f (those q xs))
  distinct_fewer q sub [] d = tt
  distinct_fewer q sub (x ∷ xs) d = go (λ (k : Distinct (map f (those p xs))). distinct_fewer q sub xs k) (p x) (q x) refl refl d
    where
      go : (Distinct (map f (those p xs)) → Distinct (map f (those q xs))) → (b c : Bool) → p x ≡ b → q x ≡ c
          → Distinct (map f (cond b (x ∷ those p xs) (those p xs)))
          → Distinct (map f (cond c (x ∷ those q xs) (those q xs)))
      go rec true true e g k = (
        (λ m.
            let r = in_map f (f x) (those q xs) m in
            let t = in_those q r.0 xs r.1 in
            k.0 (subst (λ (y : B). In y (map f (those p xs))) (sym r.2) (map_in f r.0 (those p xs) (those_in p r.0 xs t.0 (sub r.0 t.1))))),
        rec k.1,
      )
      go rec true false e g k = rec k.1
      go rec false true e g k = absurd (subst T e (sub x (of_true (q x) g)))
      go rec false false e g k = rec k

  -- two that give the same are one
  pub same_one : (x y : A) (xs : List A) → Distinct (map f (those p xs)) → In x xs → In y xs → T (p x) → T (p y) → f x ≡ f y → x ≡ y
  same_one x y [] d m k t u e = absurd m
  same_one x y (z ∷ xs) d m k t u e =
      go (λ (i : In x xs) (j : In y xs) (g : Distinct (map f (those p xs))). same_one x y xs g i j t u e) (p z) refl d m k
    where
      go : (In x xs → In y xs → Distinct (map f (those p xs)) → x ≡ y) → (b : Bool) → p z ≡ b
          → Distinct (map f (cond b (z ∷ those p xs) (those p xs)))
          → In x (z ∷ xs)
          → In y (z ∷ xs)
          → x ≡ y
      go rec true q g (inl i) (inl j) = i ∙ sym j
      go rec true q g (inl i) (inr j) =
          absurd (g.0 (subst (λ (w : B). In w (map f (those p xs))) (sym e ∙ ap f i) (map_in f y (those p xs) (those_in p y xs j u))))
      go rec true q g (inr i) (inl j) =
          absurd (g.0 (subst (λ (w : B). In w (map f (those p xs))) (e ∙ ap f j) (map_in f x (those p xs) (those_in p x xs i t))))
      go rec true q g (inr i) (inr j) = rec i j g.1
      go rec false q g (inl i) k' = absurd (subst T (ap p i ∙ q) t)
      go rec false q g (inr i) (inl j) = absurd (subst T (ap p j ∙ q) u)
      go rec false q g (inr i) (inr j) = rec i j g

-- Lists that rise

module _ {A : Type 0} (r : A → A → Type 0) where
  pub rising_append : (xs ys : List A) → Rising r xs → Rising r ys → ((x y : A) → In x xs → In y ys → r x y) → Rising r (xs ++ ys)
  rising_append [] ys a b l = b
  rising_append (x ∷ xs) ys a b l =
      ((λ y m. ⊎_elim (a.0 y) (l x y (inl refl)) (in_cases y xs ys m)), rising_append xs ys a.1 b (λ z y m k. l z y (inr m) k))

  pub rising_those : (p : A → Bool) (xs : List A) → Rising r xs → Rising r (those p xs)
  rising_those p [] u = tt
  rising_those p (x ∷ xs) u = go (p x) (rising_those p xs u.1)
    where
      go : (b : Bool) → Rising r (those p xs) → Rising r (cond b (x ∷ those p xs) (those p xs))
      go true k = ((λ y m. u.0 y (in_those p y xs m).0), k)
      go false k = k

  module _ (never : (x y : A) → r x y → r y x → ⊥) where
    pub rising_distinct : (xs : List A) → Rising r xs → Distinct xs
    rising_distinct [] u = tt
    rising_distinct (x ∷ xs) u = ((λ m. never x x (u.0 x m) (u.0 x m)), rising_distinct xs u.1)

    -- a member of the rest is none of the first again
    past : (x y : A) (xs ys : List A) → ((z : A) → In z xs → r x z) → y ≡ x → ((z : A) → In z xs → In z (y ∷ ys)) → (z : A) → In z xs → In z ys
    past x y xs ys a e f z m =
        ⊎_elim (λ q. let b = subst (λ (w : A). r x w) (q ∙ e) (a z m) in absurd (never x x b b)) (λ k. k) (f z m)

    -- two lists that rise and have the same members are one
    pub one_rising : (xs ys : List A) → Rising r xs → Rising r ys → ((z : A) → In z xs → In z ys) → ((z : A) → In z ys → In z xs) → xs ≡ ys
    one_rising [] [] a b f g = refl
    one_rising [] (y ∷ ys) a b f g = absurd (g y (inl refl))
    one_rising (x ∷ xs) [] a b f g = absurd (f x (inl refl))
    one_rising (x ∷ xs) (y ∷ ys) a b f g =
        go (λ (e : x ≡ y). one_rising xs ys a.1 b.1 (past x y xs ys a.0 (sym e) (λ z m. f z (inr m))) (past y x ys xs b.0 e (λ z m. g z (inr m))))
        (f x (inl refl)) (g y (inl refl))
      where
        tails : (x ≡ y → xs ≡ ys) → x ≡ y → x ∷ xs ≡ y ∷ ys
        tails rest e = let k : xs ≡ ys = rest e in cc

        go : (x ≡ y → xs ≡ ys) → (x ≡ y) ⊎ In x ys → (y ≡ x) ⊎ In y xs → x ∷ xs ≡ y ∷ ys
        go rest (inl e) k = tails rest e
        go rest (inr m) (inl e) = tails rest (sym e)
        go rest (inr m) (inr k) = absurd (never x y (a.0 y k) (b.0 x m))

pub count_append : {A : Type 0} (p : A → Bool) (xs ys : List A) → how_many p (xs ++ ys) ≡ how_many p xs + how_many p ys
count_append p [] ys = omega arith
count_append p (x ∷ xs) ys = go (p x) (count_append p xs ys)
  where
    go : (b : Bool) → how_many p (xs ++ ys) ≡ how_many p xs + how_many p ys → cond b (suc (how_many p (xs ++ ys))) (how_many p (xs ++ ys)) ≡ cond b (suc (how_many p xs)) (how_many p xs) + how_many p ys
    go true e = omega arith
    go false e = e

pub all_append : {A : Type 0} (p : A → Bool) (xs ys : List A) → all p (xs ++ ys) ≡ all p xs && all p ys
all_append p [] ys = refl
all_append p (x ∷ xs) ys = go (p x) (all_append p xs ys)
  where
    go : (b : Bool) → all p (xs ++ ys) ≡ all p xs && all p ys → b && all p (xs ++ ys) ≡ b && all p xs && all p ys
    go true e = e
    go false e = refl
