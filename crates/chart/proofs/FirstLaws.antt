-- Members brought together: by what stands for them, and by numbers that ascend, in the order of a key.
-- Assumes nothing.
use mathlib.Core.Path.{◌≡◌, refl, sym, ap, ◌∙◌}
use mathlib.Core.Bool.{Bool, true, false, not, cond, ◌&&◌, ◌||◌}
use mathlib.Core.List.{List, [], ◌∷◌, ◌++◌, map}
use Prim.Native.Nat.{ℕ, ◌<◌}
use native.Mathlib.Omega.{arith}
use borrow.Author.Tests.{le-ltb, ltb-true}
use lib.Dec.{ltb}
use Rattle.house.specs.Text.{Text, any, all, those, joined, adjacent}
use Rattle.house.proofs.Small.{both}
use Rattle.lines_words.specs.Words.{in_order}
use Rattle.lines_words.proofs.OrderedLaws.{any_ordered}
use Rattle.lines_words.proofs.RunLaws.{above_first, ascends_rest, those_ordered}
use Rattle.chart_definitions.specs.Lots.{firsts_after, firsts, together}
use Rattle.chart.specs.Inside.{like, is_first_of}

-- TOGETHER, by what stands for the members

module _ {A B : Type 0} (f : A → B) (r : B → B → Bool) (t : A → A → Bool) (m : A → Bool)
    (agree : (x y : A) → m x ≡ true → m y ≡ true → r (f x) (f y) ≡ t x y) where
  any_map : (x : A) (ys : List A) → m x ≡ true → all m ys ≡ true → any (r (f x)) (map f ys) ≡ any (t x) ys
  any_map x [] a b = refl
  any_map x (y ∷ ys) a b =
      let c = both (m y) (all m ys) b in
      rw (agree x y a c.0) (ap (λ (u : Bool). t x y || u) (any_map x ys a c.1))

  those_map : (x : A) (ys : List A) → m x ≡ true → all m ys ≡ true → those (r (f x)) (map f ys) ≡ map f (those (t x) ys)
  those_map x [] a b = refl
  those_map x (y ∷ ys) a b =
      let c = both (m y) (all m ys) b in rw (agree x y a c.0) (go (t x y) (those_map x ys a c.1))
    where
      go : (u : Bool) → those (r (f x)) (map f ys) ≡ map f (those (t x) ys)
          → cond u (f y ∷ those (r (f x)) (map f ys)) (those (r (f x)) (map f ys)) ≡ map f (cond u (y ∷ those (t x) ys) (those (t x) ys))
      go true e = ap (λ (l : List B). f y ∷ l) e
      go false e = e

  firsts_map : (before xs : List A) → all m before ≡ true → all m xs ≡ true
      → (firsts_after r (map f before) (map f xs) ≡ map f (firsts_after t before xs)) × (all m (firsts_after t before xs) ≡ true)
  firsts_map before [] a b = (refl, refl)
  firsts_map before (x ∷ xs) a b =
      let c = both (m x) (all m xs) b in
      let d : all m (x ∷ before) ≡ true = rw (c.0, a) in
      go (any (t x) before) (any_map x before c.0 a) c.0 (firsts_map (x ∷ before) xs d c.1)
    where
      go : (u : Bool) → any (r (f x)) (map f before) ≡ u → m x ≡ true
          → (firsts_after r (map f (x ∷ before)) (map f xs) ≡ map f (firsts_after t (x ∷ before) xs)) × (all m (firsts_after t (x ∷ before) xs) ≡ true)
          → (cond (any (r (f x)) (map f before)) (firsts_after r (map f (x ∷ before)) (map f xs)) (f x ∷ firsts_after r (map f (x ∷ before)) (map f xs))
          ≡ map f (cond u (firsts_after t (x ∷ before) xs) (x ∷ firsts_after t (x ∷ before) xs)))
          × (all m (cond u (firsts_after t (x ∷ before) xs) (x ∷ firsts_after t (x ∷ before) xs)) ≡ true)
      go true e k h = (rw e h.0, h.1)
      go false e k h = (rw e (ap (λ (l : List B). f x ∷ l) h.0), rw (k, h.1))

  append_map : (xs ys : List A) → map f (xs ++ ys) ≡ map f xs ++ map f ys
  append_map [] ys = refl
  append_map (x ∷ xs) ys = ap (λ (l : List B). f x ∷ l) (append_map xs ys)

  joined_those : (zs xs : List A) → all m zs ≡ true → all m xs ≡ true
      → joined (λ (y : B). those (r y) (map f zs)) (map f xs) ≡ map f (joined (λ (x : A). those (t x) zs) xs)
  joined_those zs [] a b = refl
  joined_those zs (x ∷ xs) a b =
      let c = both (m x) (all m xs) b in
      ap (λ (l : List B). l ++ joined (λ (y : B). those (r y) (map f zs)) (map f xs)) (those_map x zs c.0 a)
      ∙ ap (λ (l : List B). map f (those (t x) zs) ++ l) (joined_those zs xs a c.1)
      ∙ sym (append_map (those (t x) zs) (joined (λ (y : A). those (t y) zs) xs))

  pub together_map : (xs : List A) → all m xs ≡ true → together r (map f xs) ≡ map f (together t xs)
  together_map xs a =
      let k = firsts_map [] xs refl a in
      ap (joined (λ (y : B). those (r y) (map f xs))) k.0 ∙ joined_those xs (firsts t xs) a k.1

pub joined_map : {A B : Type 0} (f : A → List B) (xs : List A) → joined (λ (l : List B). l) (map f xs) ≡ joined f xs
joined_map f [] = refl
joined_map {A} {B} f (x ∷ xs) = ap (λ (l : List B). f x ++ l) (joined_map f xs)

-- FIRSTS

-- of these numbers each is below all of those
abbrev under : List ℕ → List ℕ → Bool
under before xs = all (λ (f : ℕ). all (ltb f) xs) before

under_head : (before : List ℕ) (x : ℕ) (xs : List ℕ) → under before (x ∷ xs) ≡ true → (all (λ (f : ℕ). ltb f x) before ≡ true) × (under before xs ≡ true)
under_head [] x xs h = (refl, refl)
under_head (f ∷ before) x xs h =
    let a = both (ltb f x && all (ltb f) xs) (under before (x ∷ xs)) h in
    let b = both (ltb f x) (all (ltb f) xs) a.0 in
    let r = under_head before x xs a.1 in
    (rw (b.0, r.0), rw (b.1, r.1))

-- all of these pass the first test, so the second decides
any_below : (t : ℕ → Bool) (x : ℕ) (fs : List ℕ) → all (λ (f : ℕ). ltb f x) fs ≡ true → any (λ (f : ℕ). ltb f x && t f) fs ≡ any t fs
any_below t x [] h = refl
any_below t x (f ∷ fs) h =
    let a = both (ltb f x) (all (λ (g : ℕ). ltb g x) fs) h in
    rw a.0 (ap (λ (b : Bool). t f || b) (any_below t x fs a.1))

-- none of these does
any_above : (t : ℕ → Bool) (x : ℕ) (fs : List ℕ) → all (ltb x) fs ≡ true → any (λ (f : ℕ). ltb f x && t f) fs ≡ false
any_above t x [] h = refl
any_above t x (f ∷ fs) h =
    let a = both (ltb x f) (all (ltb x) fs) h in
    let l : x < f = ltb-true x f a.0 in
    rw (le-ltb f x (omega (arith, l))) (any_above t x fs a.1)

or_turn : (a b c : Bool) → a || (b || c) ≡ (b || a) || c
or_turn true true c = refl
or_turn true false c = refl
or_turn false true c = refl
or_turn false false c = refl

or_none : (a : Bool) → a || false ≡ a
or_none true = refl
or_none false = refl

module _ (key : ℕ → Text) where
  -- where these have gone before and those come, none of es that stands earlier is alike if none that has gone before is
  first_now : (es before : List ℕ) (x : ℕ) (xs : List ℕ) → ((t : ℕ → Bool) → any t es ≡ any t before || any t (x ∷ xs)) → under before (x ∷ xs) ≡ true
      → adjacent ltb (x ∷ xs) ≡ true → is_first_of key es x ≡ not (any (like key x) before)
  unfolding is_first_of
  first_now es before x xs e u a =
      let now : any (λ (f : ℕ). ltb f x && like key x f) before || ((ltb x x && like key x x) || any (λ (f : ℕ). ltb f x && like key x f) xs)
      ≡ any (like key x) before =
      rw (le-ltb x x (omega arith), any_above (like key x) x xs (above_first x xs a), any_below (like key x) x before (under_head before x xs u).0)
      (or_none (any (like key x) before)) in
      ap not (e (λ (f : ℕ). ltb f x && like key x f) ∙ now)

  firsts_are : (es before xs : List ℕ) → ((t : ℕ → Bool) → any t es ≡ any t before || any t xs) → under before xs ≡ true → adjacent ltb xs ≡ true
      → those (is_first_of key es) xs ≡ firsts_after (like key) before xs
  firsts_are es before [] e u a = refl
  firsts_are es before (x ∷ xs) e u a =
      rw (first_now es before x xs e u a)
      (go (any (like key x) before)
      (firsts_are es (x ∷ before) xs (λ t. e t ∙ or_turn (any t before) (t x) (any t xs)) (rw (above_first x xs a, (under_head before x xs u).1)) (ascends_rest x xs a)))
    where
      go : (b : Bool) → those (is_first_of key es) xs ≡ firsts_after (like key) (x ∷ before) xs
          → cond (not b) (x ∷ those (is_first_of key es) xs) (those (is_first_of key es) xs)
          ≡ cond b (firsts_after (like key) (x ∷ before) xs) (x ∷ firsts_after (like key) (x ∷ before) xs)
      go true r = r
      go false r = ap (λ (l : List ℕ). x ∷ l) r

  joined_same : (f g : ℕ → List ℕ) (xs : List ℕ) → ((x : ℕ) → f x ≡ g x) → joined f xs ≡ joined g xs
  joined_same f g [] h = refl
  joined_same f g (x ∷ xs) h = ap (λ (l : List ℕ). l ++ joined f xs) (h x) ∙ ap (λ (l : List ℕ). g x ++ l) (joined_same f g xs h)

  those_same : (t u : ℕ → Bool) (xs : List ℕ) → ((x : ℕ) → t x ≡ u x) → those t xs ≡ those u xs
  those_same t u [] h = refl
  those_same t u (x ∷ xs) h = rw (h x) (ap (λ (l : List ℕ). cond (u x) (x ∷ l) l) (those_same t u xs h))

  first_ordered : (xs : List ℕ) (x : ℕ) → is_first_of key (in_order key xs) x ≡ is_first_of key xs x
  unfolding is_first_of
  first_ordered xs x = ap not (any_ordered key (λ (f : ℕ). ltb f x && like key x f) xs)

  -- put in order, numbers that ascend are told alike as they are unordered
  pub ordered_together : (xs : List ℕ) → adjacent ltb xs ≡ true
      → joined (λ (p : ℕ). those (like key p) (in_order key xs)) (those (is_first_of key (in_order key xs)) xs) ≡ together (like key) xs
  ordered_together xs a =
      joined_same (λ (p : ℕ). those (like key p) (in_order key xs)) (λ (p : ℕ). those (like key p) xs) (those (is_first_of key (in_order key xs)) xs)
      (λ p. those_ordered key p xs a)
      ∙ ap (joined (λ (p : ℕ). those (like key p) xs))
      (those_same (is_first_of key (in_order key xs)) (is_first_of key xs) xs (first_ordered xs) ∙ firsts_are xs [] xs (λ t. refl) refl a)
