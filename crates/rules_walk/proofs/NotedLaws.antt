-- The table of repeats of a file's own index notes exactly the blocks whose event an earlier block names.
-- Assumes nothing.
use mathlib.Core.Path.{◌≡◌, refl, sym, ap, ◌∙◌, subst}
use mathlib.Core.Logic.{◌⊎◌, inl, inr, ⊎_elim}
use mathlib.Core.Bool.{Bool, true, false, cond, ◌&&◌, ◌||◌}
use mathlib.Core.List.{List, [], ◌∷◌}
use Prim.Native.Nat.{ℕ, ◌+◌, ◌*◌, ◌/◌, ◌≤◌, ◌<◌}
use native.Mathlib.Omega.{arith}
use borrow.Author.Tests.{ltb-true, lt-ltb, eq-eqb, eqb-true, eqb-false}
use lib.Dec.{T, eqb, ltb, eqb→eq}
use lib.ListN.{length, replicate, length-replicate, get_or-replicate}
use lib.Seq.{get_or-set_same, get_or-set_other}
use Rattle.house.specs.Text.{Text, any, same}
use Rattle.house.proofs.Small.{clash}
use Rattle.house.proofs.Facts.{both, both_of, either, left_of, right_of, is_true, of_true, bool_ext}
use Rattle.house.proofs.Decisions.{same_is, is_same_t, below_irrefl}
use Rattle.lines.specs.Records.{Rec}
use Rattle.lines_places.specs.Events.{event_at}
use Rattle.lines_places.specs.Inside.{Lt, Le, All}
use Rattle.lines_places.proofs.Ranks.{le_cases, lt_le_trans}
use Rattle.lines_places.proofs.Order.{all_map}
use Rattle.rules_definitions.specs.Blocks.{is_in_block, event_of, before_block, is_repeated}
use Rattle.rules_walk.specs.Firsts.{start_after, firsts_of, index_of, named_before}
use Rattle.rules_walk.specs.Repeats.{repeats_after, repeats_in, is_noted, note_at, note_all}
use Rattle.rules_walk.specs.Inside.{Passed}
use Rattle.rules_walk.proofs.NamedLaws.{rule15_named}
use Rattle.rules_walk.proofs.IndexLaws.{Spread, Later, Ordered, later_le, firsts_apart, firsts_within, index_ordered, index_all, index_any}
use Rattle.rules_walk.proofs.OnceLaws.{line_opens, first_there}
use Rattle.rules_walk.proofs.RepeatNeeds.{length_note}

not_so : (b : Bool) → (T b → ⊥) → b ≡ false
not_so true h = absurd (h tt)
not_so false h = refl

-- 1. A position among others

abbrev Among : ℕ → List ℕ → Type 0
Among b xs = T (any (λ (p : ℕ). eqb p b) xs)

all_there : (P : ℕ → Type 0) (b : ℕ) (xs : List ℕ) → All P xs → Among b xs → P b
all_there P b [] a t = absurd t
all_there P b (x ∷ xs) a t =
    ⊎_elim (λ e. subst P (eqb→eq x b e) a.0) (λ m. all_there P b xs a.1 m) (either (eqb x b) (any (λ (p : ℕ). eqb p b) xs) t)

none_any : (q : ℕ → Bool) (xs : List ℕ) → All (λ (x : ℕ). T (q x) → ⊥) xs → any q xs ≡ false
none_any q [] a = refl
none_any q (x ∷ xs) a = rw (not_so (q x) a.0, none_any q xs a.1)

-- no other stands in the same sixteen bytes
abbrev Alone : ℕ → ℕ → Type 0
Alone b q = q / 16 ≡ b / 16 → q ≡ b

spread_alone : (b : ℕ) (xs : List ℕ) → Spread xs → Among b xs → All (Alone b) xs
spread_alone b [] u t = tt
spread_alone b (x ∷ xs) u t = ⊎_elim here (λ m. later m (spread_alone b xs u.1 m)) (either (eqb x b) (any (λ (p : ℕ). eqb p b) xs) t)
  where
    here : T (eqb x b) → All (Alone b) (x ∷ xs)
    here e =
        let z : x ≡ b = eqb→eq x b e in
        ((λ k. z), all_map (λ (y : ℕ). x + 16 ≤ y) (Alone b) xs (λ y h k. absurd (omega (arith, z))) u.0)

    later : Among b xs → All (Alone b) xs → All (Alone b) (x ∷ xs)
    later m r = let h : x + 16 ≤ b = all_there (λ (y : ℕ). x + 16 ≤ y) b xs u.0 m in ((λ k. absurd (omega arith)), r)

-- 2. What a table notes

note_here : (table : Text) (q b : ℕ) → q ≡ b → b / 16 < length table → is_noted (note_at table q) b ≡ true
unfolding is_noted note_at
note_here table q b e h = rw (e, get_or-set_same table (b / 16) 1 0 h)

note_other : (table : Text) (q b : ℕ) → (q / 16 ≡ b / 16 → ⊥) → is_noted (note_at table q) b ≡ is_noted table b
unfolding is_noted note_at
note_other table q b n = ap (λ (x : ℕ). eqb x 1) (get_or-set_other table (q / 16) (b / 16) 1 0 (λ e. n (sym e)))

noted_all : (b : ℕ) (qs : List ℕ) (table : Text) → All (Alone b) qs → b / 16 < length table → is_noted (note_all qs table) b ≡ (any (λ (p : ℕ). eqb p b) qs || is_noted table b)
unfolding note_all
noted_all b [] table a h = refl
noted_all b (q ∷ qs) table a h = noted_all b qs (note_at table q) a.1 (omega (arith, length_note table q)) ∙ go (eqb q b) refl
  where
    or_true : (x : Bool) → (x || true) ≡ true
    or_true true = refl
    or_true false = refl

    go : (c : Bool) → eqb q b ≡ c → (any (λ (p : ℕ). eqb p b) qs || is_noted (note_at table q) b) ≡ ((c || any (λ (p : ℕ). eqb p b) qs) || is_noted table b)
    go true e = rw (note_here table q b (eqb-true q b e) h) (or_true (any (λ (p : ℕ). eqb p b) qs))
    go false e = rw (note_other table q b (λ k. eqb-false q b e (a.0 k)))

-- 3. What repeats in a list in order: those that have one of the same event before them

repeats_all : (P : ℕ → Type 0) (f e : Text) (ps : List ℕ) → All P ps → All P (repeats_after f e ps)
unfolding repeats_after
repeats_all P f e [] a = tt
repeats_all P f e (p ∷ ps) a = go (same e (event_at f p)) (repeats_all P f (event_at f p) ps a.1)
  where
    go : (c : Bool) → All P (repeats_after f (event_at f p) ps) → All P (cond c (p ∷ repeats_after f (event_at f p) ps) (repeats_after f (event_at f p) ps))
    go true r = (a.0, r)
    go false r = r

in_all : (P : ℕ → Type 0) (f : Text) (ps : List ℕ) → All P ps → All P (repeats_in f ps)
unfolding repeats_in
in_all P f [] a = tt
in_all P f (p ∷ ps) a = repeats_all P f (event_at f p) ps a.1

module _ (f : Text) (b : ℕ) where
  abbrev sought : ℕ → Bool
  sought p = ltb p b && same (event_at f p) (event_at f b)

  sought_says : (p : ℕ) → T (sought p) → (p < b) × (event_at f p ≡ event_at f b)
  sought_says p t =
      let r = both (ltb p b) (same (event_at f p) (event_at f b)) t in
      (ltb-true p b (is_true (ltb p b) r.0), same_is (event_at f p) (event_at f b) r.1)

  -- b stands after p: p is sought if they name one event
  later_sought : (p : ℕ) → Later (event_at f) p b → event_at f p ≡ event_at f b → T (sought p)
  later_sought p (inl k) e = absurd (below_irrefl (event_at f b) (subst (λ (x : Text). Lt x (event_at f b)) e k))
  later_sought p (inr k) e = both_of (ltb p b) (same (event_at f p) (event_at f b)) (of_true (ltb p b) (lt-ltb p b k.1)) (is_same_t (event_at f p) (event_at f b) e)

  -- what stands after b is neither b nor sought
  later_other : (p : ℕ) → Later (event_at f) b p → T (eqb p b) → ⊥
  later_other p (inl k) e = below_irrefl (event_at f b) (subst (λ (x : ℕ). Lt (event_at f b) (event_at f x)) (eqb→eq p b e) k)
  later_other p (inr k) e = let h : b < p = k.1 in omega (arith, eqb→eq p b e)

  later_unsought : (p : ℕ) → Later (event_at f) b p → T (sought p) → ⊥
  later_unsought p (inl k) t = below_irrefl (event_at f b) (subst (Lt (event_at f b)) (sought_says p t).1 k)
  later_unsought p (inr k) t = let h : b < p = k.1 in let g : p < b = (sought_says p t).0 in omega arith

  self_unsought : (p : ℕ) → p ≡ b → T (sought p) → ⊥
  self_unsought p e t = let g : p < b = (sought_says p t).0 in omega arith

  -- b itself is the first
  repeats_first : (p : ℕ) (qs : List ℕ) → p ≡ b → All (Later (event_at f) p) qs → any (λ (x : ℕ). eqb x b) (repeats_after f (event_at f p) qs) ≡ any sought (p ∷ qs)
  repeats_first p qs e a =
      let o : All (Later (event_at f) b) qs = subst (λ (x : ℕ). All (Later (event_at f) x) qs) e a in
      none_any (λ (x : ℕ). eqb x b) (repeats_after f (event_at f p) qs)
      (repeats_all (λ (x : ℕ). T (eqb x b) → ⊥) f (event_at f p) qs (all_map (Later (event_at f) b) (λ (x : ℕ). T (eqb x b) → ⊥) qs later_other o))
      ∙ sym (none_any sought (p ∷ qs) (self_unsought p e, all_map (Later (event_at f) b) (λ (x : ℕ). T (sought x) → ⊥) qs later_unsought o))

  -- b is q, which stands after p, or after it: p and b are of one event only if p and q are
  between : (p q : ℕ) → Later (event_at f) p q → (q ≡ b) ⊎ Later (event_at f) q b → event_at f p ≡ event_at f b → event_at f p ≡ event_at f q
  between p q h (inl k) e = e ∙ ap (event_at f) (sym k)
  between p q h (inr k) e =
      ⊎_elim (λ z. z)
      (λ z. absurd (below_irrefl (event_at f p) (lt_le_trans (event_at f p) (event_at f q) (event_at f p) z (subst (Le (event_at f q)) (sym e) (later_le (event_at f) q b k)))))
      (le_cases (event_at f p) (event_at f q) (later_le (event_at f) p q h))

  -- one place more before the others, R being what repeats among them
  module _ (p q : ℕ) (rest R : List ℕ) (o : Later (event_at f) p q) (op : All (Later (event_at f) p) (q ∷ rest)) (oq : All (Later (event_at f) q) rest) (m : Among b (q ∷ rest))
      (r : any (λ (x : ℕ). eqb x b) R ≡ any sought (q ∷ rest)) where
    where_b : (q ≡ b) ⊎ (Among b rest × Later (event_at f) q b)
    where_b = ⊎_elim (λ e. inl (eqb→eq q b e)) (λ k. inr (k, all_there (Later (event_at f) q) b rest oq k)) (either (eqb q b) (any (λ (x : ℕ). eqb x b) rest) m)

    p_before : Later (event_at f) p b
    p_before = all_there (Later (event_at f) p) b (q ∷ rest) op m

    there : T (any (λ (x : ℕ). eqb x b) R) → T (any sought (q ∷ rest))
    there t = subst T r t

    back : T (any sought (q ∷ rest)) → T (any (λ (x : ℕ). eqb x b) R)
    back t = subst T (sym r) t

    more_same : event_at f p ≡ event_at f q → (eqb q b || any (λ (x : ℕ). eqb x b) R) ≡ (sought p || any sought (q ∷ rest))
    more_same e =
        bool_ext (eqb q b || any (λ (x : ℕ). eqb x b) R) (sought p || any sought (q ∷ rest))
        (λ t.
        ⊎_elim (λ k. left_of (sought p) (any sought (q ∷ rest)) (later_sought p p_before (e ∙ ap (event_at f) (eqb→eq q b k))))
        (λ k. right_of (sought p) (any sought (q ∷ rest)) (there k)) (either (eqb q b) (any (λ (x : ℕ). eqb x b) R) t))
        (λ t. ⊎_elim from (λ k. right_of (eqb q b) (any (λ (x : ℕ). eqb x b) R) (back k)) (either (sought p) (any sought (q ∷ rest)) t))
      where
        from : T (sought p) → T (eqb q b || any (λ (x : ℕ). eqb x b) R)
        from t =
            ⊎_elim (λ k. left_of (eqb q b) (any (λ (x : ℕ). eqb x b) R) (of_true (eqb q b) (eq-eqb q b k)))
            (λ k. right_of (eqb q b) (any (λ (x : ℕ). eqb x b) R) (back (left_of (sought q) (any sought rest) (later_sought q k.1 (sym e ∙ (sought_says p t).1)))))
            where_b

    more_other : (event_at f p ≡ event_at f q → ⊥) → any (λ (x : ℕ). eqb x b) R ≡ (sought p || any sought (q ∷ rest))
    more_other n = r ∙ sym (rw (not_so (sought p) (λ t. n (between p q o (⊎_elim (λ k. inl k) (λ k. inr k.1) where_b) (sought_says p t).1))))

  repeats_is : (p : ℕ) (qs : List ℕ) → Ordered (event_at f) (p ∷ qs) → Among b (p ∷ qs) → any (λ (x : ℕ). eqb x b) (repeats_after f (event_at f p) qs) ≡ any sought (p ∷ qs)
  unfolding repeats_after
  repeats_is p [] a t = repeats_first p [] (⊎_elim (λ e. eqb→eq p b e) (λ k. absurd k) (either (eqb p b) false t)) tt
  repeats_is p (q ∷ rest) a t = ⊎_elim (λ e. repeats_first p (q ∷ rest) (eqb→eq p b e) a.0) (λ m. go m (repeats_is q rest a.1 m) (same (event_at f p) (event_at f q)) refl) (either (eqb p b) (any (λ (x : ℕ). eqb x b) (q ∷ rest)) t)
    where
      R : List ℕ
      R = repeats_after f (event_at f q) rest

      go : Among b (q ∷ rest) → any (λ (x : ℕ). eqb x b) R ≡ any sought (q ∷ rest) → (c : Bool) → same (event_at f p) (event_at f q) ≡ c
          → any (λ (x : ℕ). eqb x b) (cond c (q ∷ R) R) ≡ (sought p || any sought (q ∷ rest))
      go m r true e = more_same p q rest R a.0.0 a.0 a.1.0 m r (same_is (event_at f p) (event_at f q) (of_true (same (event_at f p) (event_at f q)) e))
      go m r false e =
          more_other p q rest R a.0.0 a.0 a.1.0 m r
          (λ k. let z : true ≡ false = sym (is_true (same (event_at f p) (event_at f q)) (is_same_t (event_at f p) (event_at f q) k)) ∙ e in clash (cc))

  in_is : (ps : List ℕ) → Ordered (event_at f) ps → Among b ps → any (λ (x : ℕ). eqb x b) (repeats_in f ps) ≡ any sought ps
  unfolding repeats_in
  in_is [] a t = absurd t
  in_is (p ∷ ps) a t = repeats_is p ps a t

-- 4. The table of a file's own index, long enough for the file

clear : (n b : ℕ) → b / 16 < n → is_noted (replicate n 0) b ≡ false
unfolding is_noted
clear n b h = rw (get_or-replicate {A = ℕ} n (b / 16) 0 0 h)

module _ (f : Text) (n : ℕ) (long : length f ≤ 16 * n) where
  abbrev table : Text
  table = note_all (repeats_in f (index_of f)) (replicate n 0)

  pub noted_named : (b : ℕ) → T (any (λ (p : ℕ). eqb p b) (index_of f)) → is_noted table b ≡ named_before f b (event_at f b)
  unfolding named_before
  noted_named b t =
      noted_all b (repeats_in f (index_of f)) (replicate n 0) (in_all (Alone b) f (index_of f) (index_all f (Alone b) (spread_alone b (firsts_of f) (firsts_apart f) among)))
      (omega (arith, within, length-replicate {A = ℕ} n 0))
      ∙ rw (clear n b within) (or_none (any (λ (p : ℕ). eqb p b) (repeats_in f (index_of f)))) ∙ in_is f b (index_of f) (index_ordered f) t
      ∙ index_any f (λ (p : ℕ). ltb p b && same (event_at f p) (event_at f b))
    where
      or_none : (x : Bool) → (x || false) ≡ x
      or_none true = refl
      or_none false = refl

      among : Among b (firsts_of f)
      among = subst T (index_any f (λ (p : ℕ). eqb p b)) t

      within : b / 16 < n
      within = let h : b < length f = all_there (λ (p : ℕ). p < length f) b (firsts_of f) (firsts_within f) among in omega arith

  -- a line's block is noted exactly if an earlier block names its event
  pub noted_repeated : (l : Rec) (before : List Rec) → Passed f (l ∷ before) → (is_in_block l && is_noted table (start_after f (before_block l before))) ≡ is_repeated l before
  noted_repeated l before c = go (is_in_block l) refl ∙ sym (rule15_named f l before c.2)
    where
      b : ℕ
      b = start_after f (before_block l before)

      go : (x : Bool) → is_in_block l ≡ x → (x && is_noted table b) ≡ (x && named_before f b (event_of l))
      go true e =
          let o = line_opens f l before c e in
          noted_named b (first_there f (l ∷ before) c b o.0) ∙ ap (named_before f b) o.1
      go false e = refl
