-- What an update leaves where the slots ascend, and those to delete and to add: the walk leaves the slots less the deleted, and the merge places
-- those added among them.
-- Assumes nothing.
use mathlib.Core.Path.{◌≡◌, refl, sym, ap, ap₂, ◌∙◌, subst}
use mathlib.Core.Bool.{Bool, true, false, not, cond}
use mathlib.Core.List.{List, [], ◌∷◌, ◌++◌}
use Prim.Native.Nat.{ℕ, zero, suc, ◌≤◌, ◌<◌}
use native.Mathlib.Omega.{arith}
use lib.ListN.{length, take, get_or}
use lib.Seq.{take-suc, take-take}
use Rattle.std.specs.declared.cmp.Ordering.{Ordering}
use Rattle.std.specs.declared.cmp.Ordering.TheVariants.{Less, Equal, Greater}
use Rattle.house.specs.Text.{Text, order_of, below, same}
use Rattle.house.proofs.Facts.{of_true}
use Rattle.house.proofs.OrderAlgebra.{flip, same_eq}
use Rattle.house.proofs.Decisions.{less_below, below_trans}
use Rattle.lines_places.specs.Sorted.{place}
use Rattle.lines_places.specs.Inside.{Lt, Le, Over, Under, Upto, Up, Asc}
use Rattle.lines_places.proofs.Ranks.{le_of}
use Rattle.lines_places.proofs.Order.{all_take, over_down, place_append, place_snoc, put_last, upto_take, upto_le, under_lt}
use Rattle.ledger.specs.Ledger.{is_among, less}
use Rattle.ledger.specs.Updates.{whole, not_below, is_next, without, put_after, merged_up_to}
use Rattle.ledger.proofs.AmongLaws.{among_first, among_later, among_none}
use Rattle.std.specs.Ordering.{ordering_reverse}

-- 1. The walk

-- what is passed over is not asked for again
module _ (s : Text) where
  past_asc : (D : List Text) → Asc whole D → Asc whole (not_below s D)
  past_asc [] a = tt
  past_asc (d ∷ D) a = go (below d s) (past_asc D a.1)
    where
      go : (b : Bool) → Asc whole (not_below s D) → Asc whole (cond b (not_below s D) (d ∷ D))
      go true r = r
      go false r = a

  past_among : (x : Text) (D : List Text) → ((d : Text) → Lt d s → Lt d x) → is_among D x ≡ is_among (not_below s D) x
  past_among x [] h = refl
  past_among x (d ∷ D) h = go (below d s) refl (past_among x D h)
    where
      go : (b : Bool) → below d s ≡ b → is_among D x ≡ is_among (not_below s D) x → is_among (d ∷ D) x ≡ is_among (cond b (not_below s D) (d ∷ D)) x
      go true e r = among_later x d D (h d (of_true (below d s) e)) ∙ r
      go false e r = refl

  -- the first that is left is it, or none is
  next_among : (D : List Text) → Asc whole D → is_next s (not_below s D) ≡ is_among (not_below s D) s
  unfolding below same
  next_among [] a = sym (among_none s [] tt)
  next_among (d ∷ D) a = go (order_of d s) refl (next_among D a.1)
    where
      go : (o : Ordering) → order_of d s ≡ o → is_next s (not_below s D) ≡ is_among (not_below s D) s
          → is_next s (cond (below d s) (not_below s D) (d ∷ D)) ≡ is_among (cond (below d s) (not_below s D) (d ∷ D)) s
      go Less e r = rw e r
      go Equal e r = rw (e, e) (sym (among_first s d D (sym (same_eq d s e))))
      go Greater e r =
          let h : Lt s d = less_below s d (flip d s ∙ ap ordering_reverse e) in
          rw (e, e) (sym (among_none s (d ∷ D) (h, over_down whole s d D h a.0)))

  -- for slots that stand above, it is as if none had been passed over
  less_past : (D xs : List Text) → Over whole s xs → less D xs ≡ less (not_below s D) xs
  unfolding less
  less_past D [] o = refl
  less_past D (x ∷ xs) o = rw (past_among x D (λ d h. below_trans d s x h o.0), less_past D xs o.1)

pub without_less : (D ss : List Text) → Asc whole D → Asc whole ss → without D ss ≡ less D ss
unfolding without less
without_less D [] a b = refl
without_less D (s ∷ ss) a b =
    let E : List Text = not_below s D in
    let am : is_next s E ≡ is_among D s = next_among s D a ∙ sym (past_among s s D (λ d h. h)) in
    let rest : without E ss ≡ less D ss = without_less E ss (past_asc s D a) b.1 ∙ sym (less_past s D ss b.0) in
    ap₂ (λ (t : Bool) (l : List Text). cond t l (s ∷ l)) am rest ∙ go (is_among D s)
  where
    go : (t : Bool) → cond t (less D ss) (s ∷ less D ss) ≡ cond (not t) (s ∷ less D ss) (less D ss)
    go true = refl
    go false = refl

-- 2. The merge

-- what goes last of both
place_end : (B K : List Text) (a : Text) → Upto whole a B → Under whole a K → place whole (B ++ (a ∷ [])) K ≡ place whole B K ++ (a ∷ [])
unfolding place
place_end B K a u v = place_append whole B (a ∷ []) K ∙ ap (place whole B) (put_last whole a K v) ∙ place_snoc whole B K a u

module _ (ss added : List Text) (up_s : Up whole ss) (upA : Up whole added) where
  adds_upto : (j : ℕ) → j < length added → Upto whole (get_or added j []) (take (suc j) added)
  adds_upto j h = upto_take whole [] j added upA h

  abbrev pub Placed : ℕ → Type 0
  Placed j = (i : ℕ) → i ≤ length ss → merged_up_to ss added j i ≡ place whole (take j added) (take i ss)

  module _ (j : ℕ) (h : j < length added) (low : Placed j) where
    more : take (suc j) added ≡ take j added ++ (get_or added j [] ∷ [])
    more = take-suc added j [] h

    upto : Upto whole (get_or added j []) (take j added)
    upto = subst (Upto whole (get_or added j [])) (take-take j (suc j) added (omega arith)) (all_take (λ (x : Text). Le x (get_or added j [])) j (take (suc j) added) (adds_upto j h))

    goes_after : (i : ℕ) → i ≤ length ss → Under whole (get_or added j []) (take i ss)
        → merged_up_to ss added j i ++ (get_or added j [] ∷ []) ≡ place whole (take (suc j) added) (take i ss)
    goes_after i k u =
        ap (λ (l : List Text). l ++ (get_or added j [] ∷ [])) (low i k) ∙ sym (place_end (take j added) (take i ss) (get_or added j []) upto u)
        ∙ ap (λ (B : List Text). place whole B (take i ss)) (sym more)

    put_placed : (i : ℕ) → i ≤ length ss → put_after ss (get_or added j []) (merged_up_to ss added j) i ≡ place whole (take (suc j) added) (take i ss)
    unfolding put_after
    put_placed zero k = goes_after zero k tt
    put_placed (suc i) k = go (below (get_or ss i []) (get_or added j [])) refl (put_placed i (omega arith))
      where
        go : (b : Bool) → below (get_or ss i []) (get_or added j []) ≡ b → put_after ss (get_or added j []) (merged_up_to ss added j) i ≡ place whole (take (suc j) added) (take i ss)
            → cond b (merged_up_to ss added j (suc i) ++ (get_or added j [] ∷ [])) (put_after ss (get_or added j []) (merged_up_to ss added j) i ++ (get_or ss i [] ∷ []))
            ≡ place whole (take (suc j) added) (take (suc i) ss)
        go true e r =
            goes_after (suc i) k
            (under_lt whole (get_or ss i []) (get_or added j []) (take (suc i) ss) (of_true (below (get_or ss i []) (get_or added j [])) e) (upto_take whole [] i ss up_s (omega arith)))
        go false e r =
            let le : Le (get_or added j []) (get_or ss i []) = le_of (get_or added j []) (get_or ss i []) e in
            ap (λ (l : List Text). l ++ (get_or ss i [] ∷ [])) r
            ∙ sym (place_snoc whole (take (suc j) added) (take i ss) (get_or ss i []) (upto_le whole (get_or added j []) (get_or ss i []) (take (suc j) added) le (adds_upto j h)))
            ∙ ap (place whole (take (suc j) added)) (sym (take-suc ss i [] (omega arith)))

  pub merged_placed : (j : ℕ) → j ≤ length added → Placed j
  unfolding merged_up_to place
  merged_placed zero h i k = refl
  merged_placed (suc j) h i k = put_placed j (omega arith) (merged_placed j (omega arith)) i k
