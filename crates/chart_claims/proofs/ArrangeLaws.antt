-- A list brought together is arranged, and no other is.
-- Assumes nothing.
use Prim.Native.Nat.{ℕ, zero, suc, ◌≤◌}
use native.Mathlib.Omega.{arith}
use mathlib.Core.Path.{◌≡◌, refl, sym, ap, ◌∙◌}
use mathlib.Core.Bool.{Bool, true, false, not, cond, ◌&&◌, ◌||◌}
use mathlib.Core.List.{List, [], ◌∷◌, ◌++◌, append-nil}
use lib.ListN.{length}
use Rattle.house.specs.Text.{any, all, those, front, after_front, joined}
use Rattle.house.proofs.Small.{both, clash}
use Rattle.lines.specs.Records.{II}
use Rattle.chart_definitions.specs.Charts.{Charted, charted_in, is_of}
use Rattle.chart_definitions.specs.Lots.{firsts_after, firsts, together, same_lots, immunizations}
use Rattle.chart_definitions.specs.Submissions.{records_of}
use Rattle.chart_definitions.proofs.PieceLaws.{front_after, all_front}
use Rattle.chart_definitions.proofs.TogetherLaws.{any_alike, together_all}
use Rattle.chart_definitions.proofs.LotLaws.{lots_sym, lots_trans, pieces_self}
use Rattle.chart_definitions.proofs.WritingOrderLaws.{order_many}
use Rattle.chart_claims.specs.ClaimsOrder.{is_grouped, Arranged, EachAsOften, LotsArranged, OneArrangement}
use Rattle.chart_claims.proofs.RightLaws.{right_request}
use Rattle.chart_claims.proofs.AlikeLaws.{those_all, those_append, all_those, those_both, all_fewer, none_those, any_none, alike, unlike, firsts_first, all_firsts, those_unlike, together_first}

module _ {A : Type 0} where
  fewer : (p : A → Bool) (xs : List A) → length (those p xs) ≤ length xs
  fewer p [] = omega arith
  fewer p (x ∷ xs) = go (p x) (fewer p xs)
    where
      go : (b : Bool) → length (those p xs) ≤ length xs → length (cond b (x ∷ those p xs) (those p xs)) ≤ suc (length xs)
      go true h = omega arith
      go false h = omega arith

  shorter : (p : A → Bool) (xs : List A) → length (after_front p xs) ≤ length xs
  shorter p [] = omega arith
  shorter p (x ∷ xs) = go (p x) (shorter p xs)
    where
      go : (b : Bool) → length (after_front p xs) ≤ length xs → length (cond b (after_front p xs) (x ∷ xs)) ≤ suc (length xs)
      go true h = omega arith
      go false h = omega arith

  pub after_run : (p : A → Bool) (xs ys : List A) → all p xs ≡ true → after_front p (xs ++ ys) ≡ after_front p ys
  after_run p [] ys e = refl
  after_run p (x ∷ xs) ys e = let k = both (p x) (all p xs) e in rw k.0 (after_run p xs ys k.1)

  any_after : (p q : A → Bool) (xs : List A) → any p xs ≡ false → any p (after_front q xs) ≡ false
  any_after p q [] e = refl
  any_after p q (x ∷ xs) e = go (p x) refl e (q x) (any_after p q xs)
    where
      go : (b : Bool) → p x ≡ b → b || any p xs ≡ false → (c : Bool) → (any p xs ≡ false → any p (after_front q xs) ≡ false) → any p (cond c (after_front q xs) (x ∷ xs)) ≡ false
      go true i h c rec = clash (cc)
      go false i h true rec = rec h
      go false i h false rec = rw (i, h)

  all_same : (p q : A → Bool) → ((z : A) → p z ≡ q z) → (xs : List A) → all p xs ≡ all q xs
  all_same p q e [] = refl
  all_same p q e (x ∷ xs) = rw (e x, all_same p q e xs)

  all_after : (p q : A → Bool) (xs : List A) → all p xs ≡ true → all p (after_front q xs) ≡ true
  all_after p q [] e = refl
  all_after p q (x ∷ xs) e = go (q x) (all_after p q xs (both (p x) (all p xs) e).1)
    where
      go : (b : Bool) → all p (after_front q xs) ≡ true → all p (cond b (after_front q xs) (x ∷ xs)) ≡ true
      go true h = h
      go false h = e

  those_none : (xs : List A) → those (λ (z : A). false) xs ≡ []
  those_none [] = refl
  those_none (x ∷ xs) = those_none xs

off : (b : Bool) → not b ≡ true → b ≡ false
off true h = clash (cc)
off false h = refl

module _ {A : Type 0} (like : A → A → Bool)
    (symmetric : (x y : A) → like x y ≡ like y x)
    (transitive : (x y z : A) → like x y ≡ true → like y z ≡ true → like x z ≡ true) where
  abbrev self : A → Bool
  self x = like x x

  -- those like x among those that are not, and the other way round
  none_like : (x y : A) (xs : List A) → like y x ≡ true → those (like y) (those (unlike like symmetric transitive x) xs) ≡ []
  none_like x y xs e = those_both (unlike like symmetric transitive x) (like y) (λ (z : A). false) (λ z. rw (alike like symmetric transitive y x z e) (at (like x z))) xs ∙ those_none xs
    where
      at : (b : Bool) → cond (not b) b false ≡ false
      at true = refl
      at false = refl

  -- GROUPED

  module _ (x : A) (zs : List A) (u : all (unlike like symmetric transitive x) zs ≡ true) (g : is_grouped like zs ≡ true) where
    run : (w : A) (ws : List A) → like x w ≡ true → all (like x) ws ≡ true → is_grouped like (ws ++ zs) ≡ true → is_grouped like (w ∷ (ws ++ zs)) ≡ true
    run w ws e r rest =
        rw (after_run (like w) ws zs (all_same (like w) (like x) (λ z. sym (alike like symmetric transitive x w z e)) ws ∙ r), apart_from) rest
      where
        apart_from : any (like w) (after_front (like w) zs) ≡ false
        apart_from = any_after (like w) (like w) zs (any_alike like symmetric transitive x w zs (symmetric w x ∙ e) ∙ any_none (like x) zs u)

    runs : (ws : List A) → all (like x) ws ≡ true → is_grouped like (ws ++ zs) ≡ true
    runs [] r = g
    runs (w ∷ ws) r = let k = both (like x w) (all (like x) ws) r in run w ws k.0 k.1 (runs ws k.1)

  abbrev others : A → List A → List A
  others x xs = those (unlike like symmetric transitive x) xs

  others_unlike : (x : A) (xs : List A) → all self xs ≡ true → all (unlike like symmetric transitive x) (together like (others x xs)) ≡ true
  others_unlike x xs e =
      together_all like symmetric transitive (others x xs) (all_fewer self (unlike like symmetric transitive x) xs e) (unlike like symmetric transitive x)
      ∙ all_those (unlike like symmetric transitive x) xs

  grouped_up_to : (n : ℕ) (xs : List A) → length xs ≤ n → all self xs ≡ true → is_grouped like (together like xs) ≡ true
  grouped_up_to zero [] h e = refl
  grouped_up_to zero (x ∷ xs) h e = absurd (omega arith)
  grouped_up_to (suc n) [] h e = refl
  grouped_up_to (suc n) (x ∷ xs) h e =
      let k = both (self x) (all self xs) e in
      let l : length (others x xs) ≤ n = omega (arith, fewer (unlike like symmetric transitive x) xs) in
      ap (is_grouped like) (together_first like symmetric transitive x xs k.0)
      ∙ runs x (together like (others x xs)) (others_unlike x xs k.1) (grouped_up_to n (others x xs) l (all_fewer self (unlike like symmetric transitive x) xs k.1))
      (x ∷ those (like x) xs) (rw k.0 (all_those (like x) xs))

  -- KEPT

  kept_up_to : (n : ℕ) (y : A) (xs : List A) → length xs ≤ n → all self xs ≡ true → those (like y) (together like xs) ≡ those (like y) xs
  kept_up_to zero y [] h e = refl
  kept_up_to zero y (x ∷ xs) h e = absurd (omega arith)
  kept_up_to (suc n) y [] h e = refl
  kept_up_to (suc n) y (x ∷ xs) h e =
      let k = both (self x) (all self xs) e in
      let l : length (others x xs) ≤ n = omega (arith, fewer (unlike like symmetric transitive x) xs) in
      ap (those (like y)) (together_first like symmetric transitive x xs k.0)
      ∙ those_append (like y) (x ∷ those (like x) xs) (together like (others x xs))
      ∙ ap (λ (zs : List A). those (like y) (x ∷ those (like x) xs) ++ zs) (kept_up_to n y (others x xs) l (all_fewer self (unlike like symmetric transitive x) xs k.1))
      ∙ go (like y x) refl
    where
      both_like : like y x ≡ true → those (like y) (those (like x) xs) ≡ those (like y) xs
      both_like q = those_both (like x) (like y) (like y) (λ z. rw (alike like symmetric transitive y x z q) (at (like x z))) xs
        where
          at : (b : Bool) → cond b b false ≡ b
          at true = refl
          at false = refl

      none_both : like y x ≡ false → those (like y) (those (like x) xs) ≡ []
      none_both q = those_both (like x) (like y) (λ (z : A). false) (λ z. at z (like x z) (like y z) refl refl) xs ∙ those_none xs
        where
          at : (z : A) (b c : Bool) → like x z ≡ b → like y z ≡ c → cond b c false ≡ false
          at z false c i j = refl
          at z true false i j = refl
          at z true true i j = clash (cc (transitive y z x j (symmetric z x ∙ i)))

      go : (b : Bool) → like y x ≡ b → cond b (x ∷ those (like y) (those (like x) xs)) (those (like y) (those (like x) xs)) ++ those (like y) (others x xs) ≡ cond b (x ∷ those (like y) xs) (those (like y) xs)
      go true q = rw (both_like q, none_like x y xs q) (append-nil (x ∷ those (like y) xs))
      go false q = rw (none_both q) (those_unlike like symmetric transitive x y xs (symmetric x y ∙ q))

  -- FIRSTS

  firsts_up_to : (n : ℕ) (xs : List A) → length xs ≤ n → all self xs ≡ true → firsts like (together like xs) ≡ firsts like xs
  firsts_up_to zero [] h e = refl
  firsts_up_to zero (x ∷ xs) h e = absurd (omega arith)
  firsts_up_to (suc n) [] h e = refl
  firsts_up_to (suc n) (x ∷ xs) h e =
      let k = both (self x) (all self xs) e in
      let l : length (others x xs) ≤ n = omega (arith, fewer (unlike like symmetric transitive x) xs) in
      let zs = together like (others x xs) in
      ap (firsts like) (together_first like symmetric transitive x xs k.0)
      ∙ firsts_first like symmetric transitive x (those (like x) xs ++ zs)
      ∙ ap (λ (ys : List A). x ∷ firsts like ys) (those_append (unlike like symmetric transitive x) (those (like x) xs) zs)
      ∙ ap (λ (ys : List A). x ∷ firsts like (ys ++ those (unlike like symmetric transitive x) zs)) none
      ∙ ap (λ (ys : List A). x ∷ firsts like ys) (those_all (unlike like symmetric transitive x) zs (others_unlike x xs k.1))
      ∙ ap (λ (ys : List A). x ∷ ys) (firsts_up_to n (others x xs) l (all_fewer self (unlike like symmetric transitive x) xs k.1))
      ∙ sym (firsts_first like symmetric transitive x xs)
    where
      none : those (unlike like symmetric transitive x) (those (like x) xs) ≡ []
      none = those_both (like x) (unlike like symmetric transitive x) (λ (z : A). false) (λ z. at (like x z)) xs ∙ those_none xs
        where
          at : (b : Bool) → cond b (not b) false ≡ false
          at true = refl
          at false = refl

  pub together_arranged : (xs : List A) → all self xs ≡ true → Arranged like xs (together like xs)
  together_arranged xs e =
      record {
        grouped = grouped_up_to (length xs) xs (omega arith) e;
        kept = λ y. kept_up_to (length xs) y xs (omega arith) e;
        firsts_kept = firsts_up_to (length xs) xs (omega arith) e;
      }

  -- NO OTHER

  -- a list that is grouped is brought together already
  grouped_after : (p : A → Bool) (xs : List A) → is_grouped like xs ≡ true → is_grouped like (after_front p xs) ≡ true
  grouped_after p [] e = refl
  grouped_after p (x ∷ xs) e = go (p x) (grouped_after p xs (both (not (any (like x) (after_front (like x) xs))) (is_grouped like xs) e).1)
    where
      go : (b : Bool) → is_grouped like (after_front p xs) ≡ true → is_grouped like (cond b (after_front p xs) (x ∷ xs)) ≡ true
      go true h = h
      go false h = e

  fixed_up_to : (n : ℕ) (xs : List A) → length xs ≤ n → all self xs ≡ true → is_grouped like xs ≡ true → together like xs ≡ xs
  fixed_up_to zero [] h e g = refl
  fixed_up_to zero (x ∷ xs) h e g = absurd (omega arith)
  fixed_up_to (suc n) [] h e g = refl
  fixed_up_to (suc n) (x ∷ xs) h e g =
      let k = both (self x) (all self xs) e in
      let m = both (not (any (like x) (after_front (like x) xs))) (is_grouped like xs) g in
      let none : any (like x) (after_front (like x) xs) ≡ false = off (any (like x) (after_front (like x) xs)) m.0 in
      let l : length (after_front (like x) xs) ≤ n = omega (arith, shorter (like x) xs) in
      let mine : those (like x) xs ≡ front (like x) xs =
      ap (those (like x)) (sym (front_after (like x) xs))
      ∙ those_append (like x) (front (like x) xs) (after_front (like x) xs)
      ∙ rw (those_all (like x) (front (like x) xs) (all_front (like x) xs), none_those (like x) (after_front (like x) xs) none) (append-nil (front (like x) xs)) in
      let theirs : others x xs ≡ after_front (like x) xs =
      ap (others x) (sym (front_after (like x) xs))
      ∙ those_append (unlike like symmetric transitive x) (front (like x) xs) (after_front (like x) xs)
      ∙ rw (no_others (front (like x) xs) (all_front (like x) xs), those_all (unlike like symmetric transitive x) (after_front (like x) xs) (not_any (after_front (like x) xs) none)) in
      together_first like symmetric transitive x xs k.0
      ∙ rw (mine, theirs, fixed_up_to n (after_front (like x) xs) l (all_after self (like x) xs k.1) (grouped_after (like x) xs m.1)) (ap (λ (ys : List A). x ∷ ys) (front_after (like x) xs))
    where
      no_others : (ys : List A) → all (like x) ys ≡ true → others x ys ≡ []
      no_others [] q = refl
      no_others (y ∷ ys) q = let b = both (like x y) (all (like x) ys) q in rw b.0 (no_others ys b.1)

      not_any : (ys : List A) → any (like x) ys ≡ false → all (unlike like symmetric transitive x) ys ≡ true
      not_any [] q = refl
      not_any (y ∷ ys) q = go (like x y) refl q (not_any ys)
        where
          go : (b : Bool) → like x y ≡ b → b || any (like x) ys ≡ false → (any (like x) ys ≡ false → all (unlike like symmetric transitive x) ys ≡ true) → not b && all (unlike like symmetric transitive x) ys ≡ true
          go true i j rec = clash (cc)
          go false i j rec = rec j

  -- one that is not like itself is like none, and so a first
  self_firsts : (b xs : List A) → all self (firsts_after like b xs) ≡ true → all self xs ≡ true
  self_firsts b [] e = refl
  self_firsts b (x ∷ xs) e = go (any (like x) b) refl e (self_firsts (x ∷ b) xs)
    where
      like_some : (ys : List A) → any (like x) ys ≡ true → self x ≡ true
      like_some [] q = clash (cc)
      like_some (y ∷ ys) q = at (like x y) refl q (like_some ys)
        where
          at : (c : Bool) → like x y ≡ c → c || any (like x) ys ≡ true → (any (like x) ys ≡ true → self x ≡ true) → self x ≡ true
          at true i j rec = transitive x y x i (symmetric y x ∙ i)
          at false i j rec = rec j

      go : (c : Bool) → any (like x) b ≡ c → all self (cond c (firsts_after like (x ∷ b) xs) (x ∷ firsts_after like (x ∷ b) xs)) ≡ true
          → (all self (firsts_after like (x ∷ b) xs) ≡ true → all self xs ≡ true) → self x && all self xs ≡ true
      go true i j rec = rw (like_some b i, rec j)
      go false i j rec = let k = both (self x) (all self (firsts_after like (x ∷ b) xs)) j in rw (k.0, rec k.1)

  pub one_arranged : (xs ys : List A) → all self xs ≡ true → Arranged like xs ys → ys ≡ together like xs
  one_arranged xs ys e a =
      let s : all self ys ≡ true = self_firsts [] ys (ap (all self) a.firsts_kept ∙ all_firsts like symmetric transitive self [] xs e) in
      sym (fixed_up_to (length ys) ys (omega arith) s a.grouped)
      ∙ each (firsts like ys)
      ∙ ap (joined (λ (x : A). those (like x) xs)) a.firsts_kept
    where
      each : (zs : List A) → joined (λ (x : A). those (like x) ys) zs ≡ joined (λ (x : A). those (like x) xs) zs
      each [] = refl
      each (z ∷ zs) = rw (a.kept z, each zs)

-- THE LOTS OF A PATIENT

own_lots : (rs : List Charted) → all (λ (x : List Charted). same_lots x x) (immunizations rs) ≡ true
unfolding immunizations
own_lots rs = pieces_self (is_of II) rs

pub lots_arranged : LotsArranged
lots_arranged rs = together_arranged same_lots lots_sym lots_trans (immunizations rs) (own_lots rs)

pub one_arrangement : OneArrangement
one_arrangement rs ys a = one_arranged same_lots lots_sym lots_trans (immunizations rs) ys (own_lots rs) a

-- each record as often
pub each_as_often : EachAsOften
unfolding records_of
each_as_often x e p = order_many (charted_in x.chart) (right_request x e).charted p
