-- The order of the index of a file: by event, and of one event by position; and how far apart the first II lines stand.
-- Assumes nothing.
use mathlib.Core.Path.{◌≡◌, refl, sym, ap, ◌∙◌, subst}
use mathlib.Core.Logic.{◌⊎◌, inl, inr, ⊎_elim}
use mathlib.Core.Bool.{Bool, true, false, cond, ◌||◌}
use mathlib.Core.List.{List, [], ◌∷◌}
use Prim.Native.Nat.{ℕ, suc, ◌+◌, ◌≤◌, ◌<◌}
use native.Mathlib.Omega.{arith}
use lib.Dec.{T}
use lib.ListN.{length, get_or, drop}
use Rattle.house.specs.Text.{Text, any, below}
use Rattle.house.proofs.Facts.{of_true}
use Rattle.lines_fields.specs.Lines.{line_len, lines_len}
use Rattle.lines.specs.Records.{Rec, recs}
use Rattle.lines_places.specs.Events.{event_at}
use Rattle.lines_places.specs.Sorted.{put_in, place}
use Rattle.lines_places.specs.Inside.{Lt, Le, All}
use Rattle.lines_places.proofs.Ranks.{order, lt_le, le_refl, le_cases, le_lt_trans}
use Rattle.lines_places.proofs.Order.{all_map, all_put, all_place, put_le, put_gt}
use Rattle.rules_definitions.specs.Blocks.{is_in_block, begins}
use Rattle.rules_walk.specs.Firsts.{start_after, firsts_of, index_of}
use Rattle.rules_walk.specs.Inside.{rec_at, next_line, firsts_from}
use Rattle.rules_walk.proofs.PassLaws.{start_on, next_past, ahead_in, ahead_first, ahead_rest, firsts_on, firsts_start}
use Rattle.rules_walk.proofs.NamedLaws.{begun}
use Rattle.rules_walk.proofs.SizeLaws.{block_wide}

-- 1. Some element passes a test: by its place, and of a list sorted

module _ (q : ℕ → Bool) where
  pub any_at : (xs : List ℕ) → T (any q xs) → (j : ℕ) × (j < length xs) × T (q (get_or xs j 0))
  any_at [] t = absurd t
  any_at (x ∷ xs) t = go (q x) refl t (any_at xs)
    where
      go : (b : Bool) → q x ≡ b → T (b || any q xs) → (T (any q xs) → (j : ℕ) × (j < length xs) × T (q (get_or xs j 0))) → (j : ℕ) × (j < suc (length xs)) × T (q (get_or (x ∷ xs) j 0))
      go true e t rec = (0, omega arith, of_true (q x) e)
      go false e t rec = let r = rec t in let h : r.0 < length xs = r.1 in (suc r.0, omega arith, r.2)

  module _ (key : ℕ → Text) where
    any_put : (x : ℕ) (l : List ℕ) → any q (put_in key x l) ≡ (q x || any q l)
    unfolding put_in
    any_put x [] = refl
    any_put x (y ∷ ys) = go (below (key y) (key x)) (any_put x ys)
      where
        swap : (a b c : Bool) → (b || (a || c)) ≡ (a || (b || c))
        swap true true c = refl
        swap true false c = refl
        swap false b c = refl

        go : (b : Bool) → any q (put_in key x ys) ≡ (q x || any q ys) → any q (cond b (y ∷ put_in key x ys) (x ∷ (y ∷ ys))) ≡ (q x || (q y || any q ys))
        go true r = ap (λ (t : Bool). q y || t) r ∙ swap (q x) (q y) (any q ys)
        go false r = refl

    pub any_sorted : (xs : List ℕ) → any q (place key xs []) ≡ any q xs
    unfolding place
    any_sorted [] = refl
    any_sorted (x ∷ xs) = any_put x (place key xs []) ∙ ap (λ (t : Bool). q x || t) (any_sorted xs)

-- 2. The order of the index

abbrev Rises : List ℕ → Type 0
Rises [] = Unit {0}
Rises (x ∷ xs) = All (λ (y : ℕ). x < y) xs × Rises xs

-- each at least sixteen bytes after the one before
abbrev pub Spread : List ℕ → Type 0
Spread [] = Unit {0}
Spread (x ∷ xs) = All (λ (y : ℕ). x + 16 ≤ y) xs × Spread xs

spread_rises : (xs : List ℕ) → Spread xs → Rises xs
spread_rises [] u = tt
spread_rises (x ∷ xs) u = (all_map (λ (y : ℕ). x + 16 ≤ y) (λ (y : ℕ). x < y) xs (λ y h. omega arith) u.0, spread_rises xs u.1)

module _ (key : ℕ → Text) where
  abbrev pub Later : ℕ → ℕ → Type 0
  Later p q = Lt (key p) (key q) ⊎ ((key p ≡ key q) × (p < q))

  abbrev pub Ordered : List ℕ → Type 0
  Ordered [] = Unit {0}
  Ordered (x ∷ xs) = All (Later x) xs × Ordered xs

  later_one : (x y : ℕ) → Le (key x) (key y) → x < y → Later x y
  later_one x y h g = ⊎_elim (λ e. inr (e, g)) (λ k. inl k) (le_cases (key x) (key y) h)

  pub later_le : (x y : ℕ) → Later x y → Le (key x) (key y)
  later_le x y (inl k) = lt_le (key x) (key y) k
  later_le x y (inr k) = subst (Le (key x)) k.0 (le_refl (key x))

  later_all : (x y : ℕ) (zs : List ℕ) → Le (key x) (key y) → All (λ (z : ℕ). x < z) zs → All (Later y) zs → All (Later x) zs
  later_all x y [] h o a = tt
  later_all x y (z ∷ zs) h o a = (go a.0, later_all x y zs h o.1 a.1)
    where
      go : Later y z → Later x z
      go (inl k) = inl (le_lt_trans (key x) (key y) (key z) h k)
      go (inr k) = later_one x z (subst (Le (key x)) k.0 h) o.0

  ordered_put : (x : ℕ) (l : List ℕ) → All (λ (y : ℕ). x < y) l → Ordered l → Ordered (put_in key x l)
  unfolding put_in
  ordered_put x [] o a = (tt, tt)
  ordered_put x (y ∷ ys) o a = go (order (key x) (key y)) (ordered_put x ys o.1 a.1)
    where
      go : Le (key x) (key y) ⊎ Lt (key y) (key x) → Ordered (put_in key x ys) → Ordered (put_in key x (y ∷ ys))
      go (inl h) r = subst Ordered (sym (put_le key x y ys h)) ((later_one x y h o.0, later_all x y ys h o.1 a.0), a)
      go (inr h) r = subst Ordered (sym (put_gt key x y ys h)) (all_put (Later y) key x ys (inl h) a.0, r)

  ordered_sorted : (xs : List ℕ) → Rises xs → Ordered (place key xs [])
  unfolding place
  ordered_sorted [] u = tt
  ordered_sorted (x ∷ xs) u = ordered_put x (place key xs []) (all_place (λ (y : ℕ). x < y) key xs [] u.0 tt) (ordered_sorted xs u.1)

-- the first II lines stand in the file's order
module _ (f : Text) where
  firsts_from_lem : (b : ℕ) (before ls : List Rec) → b ≤ start_after f before → ls ≡ recs (drop (start_after f before) f) → All (λ (p : ℕ). b ≤ p) (firsts_from f before ls)
  unfolding firsts_from
  firsts_from_lem b before [] h e = tt
  firsts_from_lem b before (l ∷ ls) h e =
      subst (All (λ (p : ℕ). b ≤ p)) (sym (firsts_on f before l ls))
      (go (begins l before) (firsts_from_lem b (l ∷ before) ls (omega (arith, start_on (length before) f, next_past f (start_after f before) (ahead_in f before l ls e))) (ahead_rest f before l ls e)))
    where
      rest : List ℕ
      rest = firsts_from f (l ∷ before) ls

      go : (c : Bool) → All (λ (p : ℕ). b ≤ p) rest → All (λ (p : ℕ). b ≤ p) (cond c (start_after f before ∷ rest) rest)
      go true r = (h, r)
      go false r = r

  -- the line after the first II of a block starts sixteen bytes on at least
  first_far : (before : List Rec) (l : Rec) (ls : List Rec) → l ∷ ls ≡ recs (drop (start_after f before) f) → begins l before ≡ true → start_after f before + 16 ≤ start_after f (l ∷ before)
  unfolding rec_at next_line
  first_far before l ls e b =
      let w : 16 ≤ line_len (drop (start_after f before) f) = block_wide (drop (start_after f before) f) (subst (λ (x : Rec). T (is_in_block x)) (ahead_first f before l ls e) (begun l before b)) in
      omega (arith, start_on (length before) f)

  firsts_spread : (before ls : List Rec) → ls ≡ recs (drop (start_after f before) f) → Spread (firsts_from f before ls)
  unfolding firsts_from
  firsts_spread before [] e = tt
  firsts_spread before (l ∷ ls) e = subst Spread (sym (firsts_on f before l ls)) (go (begins l before) refl (firsts_spread (l ∷ before) ls (ahead_rest f before l ls e)))
    where
      rest : List ℕ
      rest = firsts_from f (l ∷ before) ls

      go : (c : Bool) → begins l before ≡ c → Spread rest → Spread (cond c (start_after f before ∷ rest) rest)
      go true b r = (firsts_from_lem (start_after f before + 16) (l ∷ before) ls (first_far before l ls e b) (ahead_rest f before l ls e), r)
      go false b r = r

  firsts_in_lem : (before ls : List Rec) → ls ≡ recs (drop (start_after f before) f) → All (λ (p : ℕ). p < length f) (firsts_from f before ls)
  unfolding firsts_from
  firsts_in_lem before [] e = tt
  firsts_in_lem before (l ∷ ls) e =
      subst (All (λ (p : ℕ). p < length f)) (sym (firsts_on f before l ls)) (go (begins l before) (firsts_in_lem (l ∷ before) ls (ahead_rest f before l ls e)))
    where
      rest : List ℕ
      rest = firsts_from f (l ∷ before) ls

      go : (c : Bool) → All (λ (p : ℕ). p < length f) rest → All (λ (p : ℕ). p < length f) (cond c (start_after f before ∷ rest) rest)
      go true r = (ahead_in f before l ls e, r)
      go false r = r

  pub firsts_apart : Spread (firsts_of f)
  unfolding lines_len
  firsts_apart = subst Spread (sym (firsts_start f)) (firsts_spread [] (recs f) refl)

  pub firsts_within : All (λ (p : ℕ). p < length f) (firsts_of f)
  unfolding lines_len
  firsts_within = subst (All (λ (p : ℕ). p < length f)) (sym (firsts_start f)) (firsts_in_lem [] (recs f) refl)

  pub index_ordered : Ordered (event_at f) (index_of f)
  unfolding index_of
  index_ordered = ordered_sorted (event_at f) (firsts_of f) (spread_rises (firsts_of f) firsts_apart)

  -- what all first II lines are, those of the index are
  pub index_all : (P : ℕ → Type 0) → All P (firsts_of f) → All P (index_of f)
  unfolding index_of
  index_all P a = all_place P (event_at f) (firsts_of f) [] a tt

  pub index_any : (q : ℕ → Bool) → any q (index_of f) ≡ any q (firsts_of f)
  unfolding index_of
  index_any q = any_sorted q (event_at f) (firsts_of f)
