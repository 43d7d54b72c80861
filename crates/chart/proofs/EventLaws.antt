-- Lots by their events: where one stands among lots in the order of their events, and which are written with it.
-- Assumes nothing.
use mathlib.Core.Path.{◌≡◌, refl, sym, ap, ◌∙◌}
use mathlib.Core.Bool.{Bool, true, false, not, cond, ◌&&◌}
use mathlib.Core.List.{List, [], ◌∷◌, ◌++◌, append-nil, append_assoc}
use mathlib.Core.Logic.{inl, inr}
use Prim.Native.Nat.{ℕ, ◌-◌, ◌<◌}
use native.Mathlib.Omega.{arith}
use borrow.Author.Tests.{eqb-true, eqb-false}
use lib.Dec.{eqb, ltb}
use lib.ListN.{length, get_or, drop}
use Rattle.house.specs.Text.{Text, any, those, front, joined, adjacent}
use Rattle.house.proofs.Small.{clash}
use Rattle.lines_words.specs.Words.{key_at, in_order, found_at}
use Rattle.lines_words.proofs.OrderedLaws.{any_ordered, length_ordered}
use Rattle.lines_words.proofs.RunLaws.{Leads, run_at, first_none}
use Rattle.lines_words.proofs.FoundLaws.{found, first_some}
use Rattle.chart.specs.Inside.{shot_at, event_at, like, leads, is_first_of, lots_of, is_among, Sorted}

-- LISTS

pub joined_append : {A B : Type 0} (f : A → List B) (xs ys : List A) → joined f (xs ++ ys) ≡ joined f xs ++ joined f ys
joined_append f [] ys = refl
joined_append {A} {B} f (x ∷ xs) ys =
    ap (λ (l : List B). f x ++ l) (joined_append f xs ys) ∙ sym (append_assoc (f x) (joined f xs) (joined f ys))

those_cons : {A : Type 0} (t : A → Bool) (x : A) (xs : List A) → those t (x ∷ xs) ≡ those t (x ∷ []) ++ those t xs
those_cons {A} t x xs = go (t x)
  where
    go : (b : Bool) → cond b (x ∷ those t xs) (those t xs) ≡ cond b (x ∷ []) [] ++ those t xs
    go true = refl
    go false = refl

-- AN ENTRY OF ANY KEY

leads_true : (key : ℕ → Text) (es : List ℕ) (i : ℕ) → leads key es i ≡ true → Leads key es i
unfolding leads
leads_true key es i h = go (eqb i 0) refl (like key (get_or es (i - 1) 0) (get_or es i 0)) refl h
  where
    go : (t : Bool) → eqb i 0 ≡ t → (u : Bool) → like key (get_or es (i - 1) 0) (get_or es i 0) ≡ u → cond t true (not u) ≡ true → Leads key es i
    go true a u b z = inl (eqb-true i 0 a)
    go false a true b z = clash (cc)
    go false a false b z = inr b

leads_false : (key : ℕ → Text) (es : List ℕ) (i : ℕ) → leads key es i ≡ false → (0 < i) × (like key (get_or es (i - 1) 0) (get_or es i 0) ≡ true)
unfolding leads
leads_false key es i h = go (eqb i 0) refl (like key (get_or es (i - 1) 0) (get_or es i 0)) refl h
  where
    go : (t : Bool) → eqb i 0 ≡ t → (u : Bool) → like key (get_or es (i - 1) 0) (get_or es i 0) ≡ u → cond t true (not u) ≡ false
        → (0 < i) × (like key (get_or es (i - 1) 0) (get_or es i 0) ≡ true)
    go true a u b z = clash (cc)
    go false a true b z = let n : i ≡ 0 → ⊥ = eqb-false i 0 a in (positive i n, b)
      where
        positive : (j : ℕ) → (j ≡ 0 → ⊥) → 0 < j
        positive j m = omega (arith, m)
    go false a false b z = clash (cc)

module _ (key : ℕ → Text) (from : List ℕ) (up : adjacent ltb from ≡ true) (i p : ℕ)
    (h : i < length (in_order key from)) (e : p ≡ get_or (in_order key from) i 0) where
  is_first_lem : leads key (in_order key from) i ≡ true → is_first_of key (in_order key from) p ≡ true
  unfolding is_first_of
  is_first_lem l =
      ap not (any_ordered key (λ (f : ℕ). ltb f p && like key p f) from
      ∙ first_none key from i p h e (leads_true key (in_order key from) i l))

  is_later_lem : leads key (in_order key from) i ≡ false → is_first_of key (in_order key from) p ≡ false
  unfolding is_first_of
  is_later_lem l =
      let k = leads_false key (in_order key from) i l in
      ap not (any_ordered key (λ (f : ℕ). ltb f p && like key p f) from
      ∙ first_some key from i p up k.0 h e (ap (like key (get_or (in_order key from) (i - 1) 0)) e ∙ k.1))

-- LOTS

module _ (s : Text) (es : List ℕ) where
  pub lots_none : lots_of s es [] ≡ []
  unfolding lots_of
  lots_none = refl

  pub lots_cons : (p : ℕ) (xs : List ℕ) → lots_of s es (p ∷ xs) ≡ lots_of s es (p ∷ []) ++ lots_of s es xs
  unfolding lots_of
  lots_cons p xs =
      ap (λ (l : List ℕ). joined (shot_at s) (joined (λ (q : ℕ). those (like (event_at s) q) es) l)) (those_cons (is_first_of (event_at s) es) p xs)
      ∙ ap (joined (shot_at s)) (joined_append (λ (q : ℕ). those (like (event_at s) q) es) (those (is_first_of (event_at s) es) (p ∷ [])) (those (is_first_of (event_at s) es) xs))
      ∙ joined_append (shot_at s) (joined (λ (q : ℕ). those (like (event_at s) q) es) (those (is_first_of (event_at s) es) (p ∷ [])))
      (joined (λ (q : ℕ). those (like (event_at s) q) es) (those (is_first_of (event_at s) es) xs))

  one_first : (p : ℕ) → is_first_of (event_at s) es p ≡ true → lots_of s es (p ∷ []) ≡ joined (shot_at s) (those (like (event_at s) p) es)
  unfolding lots_of
  one_first p f = rw f (ap (joined (shot_at s)) (append-nil (those (like (event_at s) p) es)))

  one_later : (p : ℕ) → is_first_of (event_at s) es p ≡ false → lots_of s es (p ∷ []) ≡ []
  unfolding lots_of
  one_later p f = rw f

module _ (s : Text) (es : List ℕ) (g : Sorted s es) (p i : ℕ) (m : is_among es p ≡ true) (e : i ≡ found_at (key_at 2 s) es p) where
  there : (i < length es) × (get_or es i 0 ≡ p)
  unfolding event_at is_among
  there =
      let n : any (eqb p) g.from ≡ true = sym (any_ordered (event_at s) (eqb p) g.from) ∙ ap (any (eqb p)) (sym g.sorted) ∙ m in
      let f = found (event_at s) g.from p g.ascend n in
      let k : i ≡ found_at (event_at s) (in_order (event_at s) g.from) p = e ∙ ap (λ (l : List ℕ). found_at (event_at s) l p) g.sorted in
      let l : length es ≡ length g.from = ap length g.sorted ∙ length_ordered (event_at s) g.from in (
        omega (arith, k, l, f.0),
        ap (λ (l : List ℕ). get_or l i 0) g.sorted ∙ ap (λ (j : ℕ). get_or (in_order (event_at s) g.from) j 0) k ∙ f.1,
      )

  pub event_index : i < length es
  event_index = there.0

  pub event_there : get_or es i 0 ≡ p
  event_there = there.1

module _ (s : Text) (es : List ℕ) (g : Sorted s es) (p i : ℕ) (h : i < length es) (t : get_or es i 0 ≡ p) where
  index_there : i < length (in_order (event_at s) g.from)
  index_there = omega (arith, h, ap length g.sorted)

  is_there_lem : p ≡ get_or (in_order (event_at s) g.from) i 0
  is_there_lem = sym t ∙ ap (λ (l : List ℕ). get_or l i 0) g.sorted

  module _ (r : Bool) (q : r ≡ leads (event_at s) es i) where
    own_leads : (t : Bool) → r ≡ t → leads (event_at s) (in_order (event_at s) g.from) i ≡ t
    own_leads t z = ap (λ (l : List ℕ). leads (event_at s) l i) (sym g.sorted) ∙ sym q ∙ z

    pub event_first : r ≡ true → lots_of s es (p ∷ []) ≡ joined (shot_at s) (front (like (event_at s) (get_or es i 0)) (drop i es))
    event_first z =
        one_first s es p (ap (λ (l : List ℕ). is_first_of (event_at s) l p) g.sorted
        ∙ is_first_lem (event_at s) g.from g.ascend i p index_there is_there_lem (own_leads true z))
        ∙ ap (joined (shot_at s)) (ap (those (like (event_at s) p)) g.sorted
        ∙ run_at (event_at s) g.from i p index_there is_there_lem (leads_true (event_at s) (in_order (event_at s) g.from) i (own_leads true z))
        ∙ ap (λ (l : List ℕ). front (like (event_at s) p) (drop i l)) (sym g.sorted)
        ∙ ap (λ (n : ℕ). front (like (event_at s) n) (drop i es)) (sym t))

    pub event_later : r ≡ false → lots_of s es (p ∷ []) ≡ []
    event_later z =
        one_later s es p (ap (λ (l : List ℕ). is_first_of (event_at s) l p) g.sorted
        ∙ is_later_lem (event_at s) g.from g.ascend i p index_there is_there_lem (own_leads false z))
