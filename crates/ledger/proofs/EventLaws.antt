-- The events after: which they are, how many of each sort, and that they ascend.
-- Assumes nothing.
use Prim.Native.Nat.{ℕ, suc, ◌+◌}
use native.Mathlib.Omega.{arith}
use mathlib.Core.Path.{◌≡◌, refl, sym, ap, ◌∙◌, subst}
use mathlib.Core.Bool.{Bool, true, false, not, cond, ◌||◌}
use mathlib.Core.Logic.{◌⊎◌, inl, inr, ⊎_elim}
use mathlib.Core.List.{List, [], ◌∷◌}
use lib.ListN.{length}
use lib.Dec.{T, T_not, not_T}
use Rattle.house.specs.Text.{same, below, any, those, how_many}
use Rattle.house.specs.Members.{In, Distinct, Rising}
use Rattle.house.proofs.Facts.{either, left_of, right_of, of_true}
use Rattle.house.proofs.Members.{in_those, those_in, distinct_those, rising_those, rising_distinct}
use Rattle.house.proofs.Decisions.{same_is, is_same_t, below_asym, below_trans, below_else}
use Rattle.ledger.specs.Ledger.{Event, is_among, put_in_order, plus, less, events_after}

-- Members

pub among_in : (es : List Event) (e : Event) → T (is_among es e) → In e es
unfolding is_among
among_in [] e t = absurd t
among_in (x ∷ es) e t = ⊎_elim (λ k. inl (same_is e x k)) (λ k. inr (among_in es e k)) (either (same e x) (any (same e) es) t)

pub in_among : (es : List Event) (e : Event) → In e es → T (is_among es e)
unfolding is_among
in_among [] e m = absurd m
in_among (x ∷ es) e (inl q) = left_of (same e x) (any (same e) es) (is_same_t e x q)
in_among (x ∷ es) e (inr m) = right_of (same e x) (any (same e) es) (in_among es e m)

in_insert : (a e : Event) (es : List Event) → In e (put_in_order a es) → (e ≡ a) ⊎ In e es
unfolding put_in_order
in_insert a e [] m = m
in_insert a e (x ∷ es) m = go (in_insert a e es) (below x a) m
  where
    go : (In e (put_in_order a es) → (e ≡ a) ⊎ In e es) → (b : Bool) → In e (cond b (x ∷ put_in_order a es) (a ∷ x ∷ es)) → (e ≡ a) ⊎ In e (x ∷ es)
    go rec true (inl q) = inr (inl q)
    go rec true (inr k) = ⊎_elim (λ q. inl q) (λ j. inr (inr j)) (rec k)
    go rec false k = k

insert_in : (a e : Event) (es : List Event) → (e ≡ a) ⊎ In e es → In e (put_in_order a es)
unfolding put_in_order
insert_in a e [] m = m
insert_in a e (x ∷ es) m = go (insert_in a e es) (below x a) m
  where
    go : ((e ≡ a) ⊎ In e es → In e (put_in_order a es)) → (b : Bool) → (e ≡ a) ⊎ In e (x ∷ es) → In e (cond b (x ∷ put_in_order a es) (a ∷ x ∷ es))
    go rec true (inl q) = inr (rec (inl q))
    go rec true (inr (inl q)) = inl q
    go rec true (inr (inr k)) = inr (rec (inr k))
    go rec false k = k

in_plus : (xs es : List Event) (e : Event) → In e (plus xs es) → In e xs ⊎ In e es
unfolding plus
in_plus [] es e m = inr m
in_plus (a ∷ xs) es e m =
    ⊎_elim (λ q. inl (inl q)) (λ k. ⊎_elim (λ j. inl (inr j)) (λ j. inr j) (in_plus xs es e k)) (in_insert a e (plus xs es) m)

plus_in : (xs es : List Event) (e : Event) → In e xs ⊎ In e es → In e (plus xs es)
unfolding plus
plus_in [] es e (inl m) = absurd m
plus_in [] es e (inr m) = m
plus_in (a ∷ xs) es e (inl (inl q)) = insert_in a e (plus xs es) (inl q)
plus_in (a ∷ xs) es e (inl (inr m)) = insert_in a e (plus xs es) (inr (plus_in xs es e (inl m)))
plus_in (a ∷ xs) es e (inr m) = insert_in a e (plus xs es) (inr (plus_in xs es e (inr m)))

in_less : (ds es : List Event) (e : Event) → In e (less ds es) → In e es × (In e ds → ⊥)
unfolding less
in_less ds es e m =
    let r = in_those (λ (x : Event). not (is_among ds x)) e es m in
    (r.0, λ k. T_not (is_among ds e) r.1 (in_among ds e k))

less_in : (ds es : List Event) (e : Event) → In e es → (In e ds → ⊥) → In e (less ds es)
unfolding less
less_in ds es e m ne = those_in (λ (x : Event). not (is_among ds x)) e es m (not_T (is_among ds e) (λ t. ne (among_in ds e t)))

-- the events after are the added, and those live before that are not deleted
pub in_after : (live added deleted : List Event) (e : Event) → In e (events_after live added deleted) → In e added ⊎ (In e live × (In e deleted → ⊥))
unfolding events_after
in_after live added deleted e m = ⊎_elim (λ k. inl k) (λ k. inr (in_less deleted live e k)) (in_plus added (less deleted live) e m)

pub after_in : (live added deleted : List Event) (e : Event) → In e added ⊎ (In e live × (In e deleted → ⊥)) → In e (events_after live added deleted)
unfolding events_after
after_in live added deleted e (inl m) = plus_in added (less deleted live) e (inl m)
after_in live added deleted e (inr m) = plus_in added (less deleted live) e (inr (less_in deleted live e m.0 m.1))

-- How many of a sort

-- all but one event
abbrev except : Event → List Event → List Event
except d es = those (λ (x : Event). not (same x d)) es

-- less one more is less the others of all but it
less_step : (d : Event) (ds es : List Event) → less (d ∷ ds) es ≡ less ds (except d es)
unfolding less is_among
less_step d ds [] = refl
less_step d ds (x ∷ es) = go (same x d) (any (same x) ds) refl refl (less_step d ds es)
  where
    go : (b c : Bool) → same x d ≡ b → any (same x) ds ≡ c → less (d ∷ ds) es ≡ less ds (except d es)
        → cond (not (b || c)) (x ∷ less (d ∷ ds) es) (less (d ∷ ds) es) ≡ less ds (cond (not b) (x ∷ except d es) (except d es))
    go true c e f r = r
    go false true e f r = r ∙ ap (λ (k : Bool). cond (not k) (x ∷ less ds (except d es)) (less ds (except d es))) (sym f)
    go false false e f r = ap (λ (l : List Event). x ∷ l) r ∙ ap (λ (k : Bool). cond (not k) (x ∷ less ds (except d es)) (less ds (except d es))) (sym f)

less_none : (es : List Event) → less [] es ≡ es
unfolding less is_among
less_none [] = refl
less_none (x ∷ es) = ap (λ (l : List Event). x ∷ l) (less_none es)

module _ (p : Event → Bool) where
  count_insert : (a : Event) (es : List Event) → how_many p (put_in_order a es) ≡ how_many p (a ∷ es)
  unfolding put_in_order
  count_insert a [] = refl
  count_insert a (x ∷ es) = go (count_insert a es) (below x a) (p x) (p a)
    where
      go : how_many p (put_in_order a es) ≡ how_many p (a ∷ es) → (b c d : Bool)
          → how_many p (cond b (x ∷ put_in_order a es) (a ∷ x ∷ es)) ≡ how_many p (a ∷ x ∷ es)
      go rec true c d = swap (p x) (p a) rec
        where
          swap : (c d : Bool) → how_many p (put_in_order a es) ≡ cond d (suc (how_many p es)) (how_many p es)
              → cond c (suc (how_many p (put_in_order a es))) (how_many p (put_in_order a es)) ≡ cond d (suc (cond c (suc (how_many p es)) (how_many p es))) (cond c (suc (how_many p es)) (how_many p es))
          swap true true e = ap suc e
          swap true false e = ap suc e
          swap false true e = e
          swap false false e = e
      go rec false c d = refl

  count_plus : (xs es : List Event) → how_many p (plus xs es) ≡ how_many p xs + how_many p es
  unfolding plus
  count_plus [] es = omega arith
  count_plus (a ∷ xs) es = count_insert a (plus xs es) ∙ go (p a) (count_plus xs es)
    where
      go : (b : Bool) → how_many p (plus xs es) ≡ how_many p xs + how_many p es → cond b (suc (how_many p (plus xs es))) (how_many p (plus xs es)) ≡ cond b (suc (how_many p xs)) (how_many p xs) + how_many p es
      go true e = omega arith
      go false e = e

  except_all : (d : Event) (es : List Event) → (In d es → ⊥) → how_many p (except d es) ≡ how_many p es
  except_all d [] ne = refl
  except_all d (x ∷ es) ne = go (same x d) refl (except_all d es (λ m. ne (inr m)))
    where
      go : (b : Bool) → same x d ≡ b → how_many p (except d es) ≡ how_many p es → how_many p (cond (not b) (x ∷ except d es) (except d es)) ≡ how_many p (x ∷ es)
      go true e r = absurd (ne (inl (sym (same_is x d (of_true (same x d) e)))))
      go false e r = ap (λ (n : ℕ). cond (p x) (suc n) n) r

  except_one : (d : Event) (es : List Event) → Distinct es → In d es → how_many p (d ∷ except d es) ≡ how_many p es
  except_one d [] dis m = absurd m
  except_one d (x ∷ es) dis m = go (same x d) refl (λ (k : In d es). except_one d es dis.1 k) m
    where
      go : (b : Bool) → same x d ≡ b → (In d es → how_many p (d ∷ except d es) ≡ how_many p es) → In d (x ∷ es) → how_many p (d ∷ cond (not b) (x ∷ except d es) (except d es)) ≡ how_many p (x ∷ es)
      go true e r k =
          let q : x ≡ d = same_is x d (of_true (same x d) e) in
          ap (λ (n : ℕ). cond (p d) (suc n) n) (except_all d es (λ j. dis.0 (subst (λ (y : Event). In y es) (sym q) j)))
          ∙ ap (λ (y : Event). cond (p y) (suc (how_many p es)) (how_many p es)) (sym q)
      go false e r (inl q) = absurd (subst T e (is_same_t x d (sym q)))
      go false e r (inr k) = swap (p d) (p x) (r k)
        where
          swap : (c b : Bool) → cond c (suc (how_many p (except d es))) (how_many p (except d es)) ≡ how_many p es
              → cond c (suc (cond b (suc (how_many p (except d es))) (how_many p (except d es)))) (cond b (suc (how_many p (except d es))) (how_many p (except d es))) ≡ cond b (suc (how_many p es)) (how_many p es)
          swap true true i = ap suc i
          swap true false i = i
          swap false true i = ap suc i
          swap false false i = i

  count_less : (ds es : List Event) → Distinct ds → Distinct es → ((e : Event) → In e ds → In e es) → how_many p (less ds es) + how_many p ds ≡ how_many p es
  count_less [] es dd de sub = omega (arith, ap (how_many p) (less_none es))
  count_less (d ∷ ds) es dd de sub =
      let r =
      count_less ds (except d es) dd.1 (distinct_those (λ (x : Event). not (same x d)) es de)
      (λ e m. those_in (λ (x : Event). not (same x d)) e es (sub e (inr m)) (not_T (same e d) (λ t. dd.0 (subst (λ (y : Event). In y ds) (same_is e d t) m)))) in
      go (p d) (ap (how_many p) (less_step d ds es)) r (except_one d es de (sub d (inl refl)))
    where
      go : (b : Bool) → how_many p (less (d ∷ ds) es) ≡ how_many p (less ds (except d es)) → how_many p (less ds (except d es)) + how_many p ds ≡ how_many p (except d es)
          → cond b (suc (how_many p (except d es))) (how_many p (except d es)) ≡ how_many p es
          → how_many p (less (d ∷ ds) es) + cond b (suc (how_many p ds)) (how_many p ds) ≡ how_many p es
      go true e r k = omega arith
      go false e r k = omega arith

  -- after, and deleted, are as many as before, and added
  pub count_after : (live added deleted : List Event) → Distinct live → Distinct deleted → ((e : Event) → In e deleted → In e live)
      → how_many p (events_after live added deleted) + how_many p deleted ≡ how_many p live + how_many p added
  unfolding events_after
  count_after live added deleted dl dd sub = omega (arith, count_plus added (less deleted live), count_less deleted live dd dl sub)

-- nothing added and nothing deleted is nothing altered
pub after_none : (live : List Event) → events_after live [] [] ≡ live
unfolding events_after plus
after_none live = less_none live

-- all of them
abbrev pub every : Event → Bool
every e = true

pub count_every : (es : List Event) → how_many every es ≡ length es
count_every [] = refl
count_every (x ∷ es) = ap suc (count_every es)

-- In order

-- each event stands below all that follow it
abbrev pub Below : Event → Event → Type 0
Below d e = T (below d e)

abbrev pub Up : List Event → Type 0
Up es = Rising Below es

pub up_distinct : (es : List Event) → Up es → Distinct es
up_distinct es u = rising_distinct Below below_asym es u

up_insert : (a : Event) (es : List Event) → (In a es → ⊥) → Up es → Up (put_in_order a es)
unfolding put_in_order
up_insert a [] ne u = ((λ y m. absurd m), tt)
up_insert a (x ∷ es) ne u = go (below x a) refl (up_insert a es (λ m. ne (inr m)) u.1)
  where
    go : (b : Bool) → below x a ≡ b → Up (put_in_order a es) → Up (cond b (x ∷ put_in_order a es) (a ∷ x ∷ es))
    go true e r = ((λ y m. ⊎_elim (λ q. subst (λ (z : Event). T (below x z)) (sym q) (of_true (below x a) e)) (λ k. u.0 y k) (in_insert a y es m)), r)
    go false e r =
        let h : T (below a x) = ⊎_elim (λ q. absurd (ne (inl (sym q)))) (λ t. t) (below_else x a e) in
        ((λ y m. ⊎_elim (λ q. subst (λ (z : Event). T (below a z)) (sym q) h) (λ k. below_trans a x y h (u.0 y k)) m), u)

up_plus : (xs es : List Event) → Distinct xs → ((e : Event) → In e xs → In e es → ⊥) → Up es → Up (plus xs es)
unfolding plus
up_plus [] es d ne u = u
up_plus (a ∷ xs) es d ne u =
    up_insert a (plus xs es) (λ m. ⊎_elim (λ k. d.0 k) (λ k. ne a (inl refl) k) (in_plus xs es a m)) (up_plus xs es d.1 (λ e m k. ne e (inr m) k) u)

-- the events after ascend
pub up_after : (live added deleted : List Event) → Up live → Distinct added → ((e : Event) → In e added → In e live → ⊥) → Up (events_after live added deleted)
unfolding events_after less
up_after live added deleted u d new =
    up_plus added (less deleted live) d (λ e m k. new e m (in_less deleted live e k).0) (rising_those Below (λ (x : Event). not (is_among deleted x)) live u)
