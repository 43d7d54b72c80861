-- What each need of the loop that closes the gaps of the deleted slots asks: w are kept of the r that were looked at, and the deletes before
-- d were passed over.
-- Assumes nothing.
use mathlib.Core.Path.{◌≡◌, refl, sym, ap, ◌∙◌}
use mathlib.Core.Bool.{Bool, true, false, cond}
use mathlib.Core.List.{List, [], ◌∷◌, ◌++◌, append-nil, append_assoc}
use Prim.Native.Nat.{ℕ, suc, ◌+◌, ◌-◌, ◌/◌, ◌≤◌, ◌<◌}
use native.Mathlib.Nat.{add-zero}
use native.Mathlib.Numerals.{add-one}
use native.Mathlib.Omega.{arith}
use borrow.Author.Rules.{rules}
use borrow.Author.Tests.{lt-ltb, le-leb, ltb-true, ltb-false}
use lib.Dec.{ltb}
use lib.ListN.{length, take, drop, get_or, set, drop_of_length-le}
use lib.Seq.{drop-cons, drop-drop, drop-set-lt, take-suc-set, get_or-drop, get_or-take, length-take-le}
use Rattle.std.specs.declared.cmp.Ordering.{Ordering}
use Rattle.std.specs.declared.cmp.Ordering.TheVariants.{Less, Equal, Greater}
use Rattle.house.specs.Text.{Text, order_of, below, same}
use Rattle.house.proofs.Small.{clash}
use Rattle.house.proofs.Suffix.{drop_here, drop_past}
use Rattle.lines_places.specs.Events.{event_at, events_at}
use Rattle.ledger.specs.Ledger.{slots, live_slot}
use Rattle.ledger.specs.Updates.{slots_for, without}
use Rattle.ledger.specs.Inside.{slot_before, order_if}
use Rattle.ledger.proofs.SlotLaws.{length_slots}

-- the slots of the deletes from d on
module _ (f : Text) (ds : List ℕ) (d : ℕ) where
  for_here : d < length ds → slots_for f (drop d ds) ≡ live_slot (event_at f (get_or ds d 0)) ∷ slots_for f (drop (d + 1) ds)
  unfolding slots_for events_at
  for_here h = rw (drop_here ds d h)

  for_past : length ds ≤ d → slots_for f (drop d ds) ≡ []
  unfolding slots_for events_at
  for_past h = rw (drop_past ds d h)

before_at : (f : Text) (ds : List ℕ) (d : ℕ) → d < length ds → slot_before f ds (d + 1) ≡ live_slot (event_at f (get_or ds d 0))
unfolding slot_before
before_at f ds d h =
    let e : d + 1 - 1 ≡ d = omega arith in
    rw (lt-ltb 0 (d + 1) (omega arith), le-leb (d + 1) (length ds) (omega arith), e)

-- how the first slot of a list stands to slot t; above it where there is none
unfoldable head_order : List Text → Text → Ordering
head_order [] t = Greater
head_order (s ∷ ss) t = order_of s t

-- the first slot that is left, by how the first delete that is left stands to it
module _ (s : Text) (rest : List Text) where
  step_under : (y : Text) (D : List Text) → head_order (y ∷ D) s ≡ Less → without (y ∷ D) (s ∷ rest) ≡ without D (s ∷ rest)
  unfolding head_order without below
  step_under y D e = rw e

  step_gone : (D : List Text) → head_order D s ≡ Equal → without D (s ∷ rest) ≡ without D rest
  unfolding head_order without below same
  step_gone [] e = clash (cc)
  step_gone (y ∷ D) e = rw (e, e)

  step_kept : (D : List Text) → head_order D s ≡ Greater → without D (s ∷ rest) ≡ s ∷ without D rest
  unfolding head_order without below same
  step_kept [] e = refl
  step_kept (y ∷ D) e = rw (e, e)

module _ (f : Text) (ds : List ℕ) (l₀ : Text) (n : ℕ) where
  pub record Gaps (l : Text) (w r d : ℕ) : Type 0 where
    pub size : length l ≡ length l₀
    pub fits : n ≤ length l₀ / 38
    pub order : w ≤ r
    pub end : r ≤ n
    pub upto : d ≤ length ds
    pub kept : take w (slots l) ++ without (slots_for f (drop d ds)) (drop r (take n (slots l₀))) ≡ without (slots_for f ds) (take n (slots l₀))
    pub rest : drop r (slots l) ≡ drop r (slots l₀)

  pub gaps_start : n ≤ length l₀ / 38 → Gaps l₀ 0 0 0
  gaps_start h = record {
    size = refl;
    fits = h;
    order = omega arith;
    end = omega arith;
    upto = omega arith;
    kept = refl;
    rest = refl;
  }

  module _ (l : Text) (w r d : ℕ) (g : Gaps l w r d) where
    pub gaps_end : n ≤ r → take w (slots l) ≡ without (slots_for f ds) (take n (slots l₀))
    unfolding without
    gaps_end h =
        let e : drop r (take n (slots l₀)) ≡ [] = drop_of_length-le (take n (slots l₀)) {i = r} (omega (arith, length-take-le n (slots l₀) (omega (arith, length_slots l₀, g.fits)))) in
        sym (append-nil (take w (slots l))) ∙ ap (λ (S : List Text). take w (slots l) ++ without (slots_for f (drop d ds)) S) (sym e) ∙ g.kept

    pub gaps_count : n ≤ r → w ≡ length (without (slots_for f ds) (take n (slots l₀)))
    gaps_count h = sym (length-take-le w (slots l) (omega (arith, length_slots l, g.size, g.fits, g.order, g.end))) ∙ ap length (gaps_end h)

    pub gaps_in : w ≤ length l₀ / 38
    gaps_in = omega (arith, g.fits, g.order, g.end)

    module _ (more : r < n) (del : Text) (is-del : del ≡ slot_before f ds (d + 1)) (s : Text) (is : s ≡ get_or (slots l) r []) (o : Ordering) (is-o : o ≡ order_if (ltb d (length ds)) del s) where
      -- the slot is as it was
      here : s ≡ get_or (slots l₀) r []
      here =
          let at : (S : List Text) → get_or (drop r S) 0 [] ≡ get_or S r [] = λ S. get_or-drop r S 0 [] ∙ ap (λ (i : ℕ). get_or S i []) (add-zero r) in
          is ∙ sym (at (slots l)) ∙ ap (λ (S : List Text). get_or S 0 []) g.rest ∙ at (slots l₀)

      left : drop r (take n (slots l₀)) ≡ s ∷ drop (r + 1) (take n (slots l₀))
      left =
          rw add-one
          (drop-cons (take n (slots l₀)) r [] (omega (arith, length-take-le n (slots l₀) (omega (arith, length_slots l₀, g.fits))))
          ∙ ap (λ (x : Text). x ∷ drop (suc r) (take n (slots l₀))) (get_or-take n (slots l₀) r [] more ∙ sym here))

      next : drop (r + 1) (slots l) ≡ drop (r + 1) (slots l₀)
      next = sym (drop-drop 1 r (slots l)) ∙ ap (drop 1) g.rest ∙ drop-drop 1 r (slots l₀)

      -- the order is that of the first delete that is left
      eo : o ≡ head_order (slots_for f (drop d ds)) s
      unfolding order_if head_order
      eo = is-o ∙ go (ltb d (length ds)) refl
        where
          go : (u : Bool) → ltb d (length ds) ≡ u → cond u (order_of del s) Greater ≡ head_order (slots_for f (drop d ds)) s
          go true e = rw (for_here f ds d (ltb-true d (length ds) e), is-del ∙ before_at f ds d (ltb-true d (length ds) e))
          go false e = rw (for_past f ds d (ltb-false d (length ds) e))

      there : o ≡ Less → d < length ds
      unfolding order_if
      there z = go (ltb d (length ds)) refl (sym is-o ∙ z)
        where
          go : (u : Bool) → ltb d (length ds) ≡ u → cond u (order_of del s) Greater ≡ Less → d < length ds
          go true e c = ltb-true d (length ds) e
          go false e c = clash (cc)

      pub gaps_falls : o ≡ Less → n - r + (length ds - (d + 1)) < n - r + (length ds - d)
      gaps_falls z = omega (arith, there z)

      -- what is left, from this slot on
      still : without (slots_for f (drop d ds)) (drop r (take n (slots l₀))) ≡ without (slots_for f (drop d ds)) (s ∷ drop (r + 1) (take n (slots l₀)))
      still = ap (without (slots_for f (drop d ds))) left

      pub gaps_skip : o ≡ Less → Gaps l w r (d + 1)
      gaps_skip z =
          let y : Text = live_slot (event_at f (get_or ds d 0)) in
          let D : List Text = slots_for f (drop (d + 1) ds) in
          let R : List Text = drop (r + 1) (take n (slots l₀)) in
          let t : slots_for f (drop d ds) ≡ y ∷ D = for_here f ds d (there z) in
          let h : head_order (y ∷ D) s ≡ Less = ap (λ (E : List Text). head_order E s) (sym t) ∙ sym eo ∙ z in
          let q : without (slots_for f (drop d ds)) (drop r (take n (slots l₀))) ≡ without D (drop r (take n (slots l₀))) =
          still ∙ ap (λ (E : List Text). without E (s ∷ R)) t ∙ step_under s R y D h ∙ ap (without D) (sym left) in
          record {
            size = g.size;
            fits = g.fits;
            order = g.order;
            end = g.end;
            upto = omega (arith, there z);
            kept = ap (λ (S : List Text). take w (slots l) ++ S) (sym q) ∙ g.kept;
            rest = g.rest;
          }

      pub gaps_gone : o ≡ Equal → Gaps l w (r + 1) d
      gaps_gone z =
          let R : List Text = drop (r + 1) (take n (slots l₀)) in
          let q : without (slots_for f (drop d ds)) (drop r (take n (slots l₀))) ≡ without (slots_for f (drop d ds)) R =
          still ∙ step_gone s R (slots_for f (drop d ds)) (sym eo ∙ z) in
          record {
            size = g.size;
            fits = g.fits;
            order = omega (arith, g.order);
            end = omega arith;
            upto = g.upto;
            kept = ap (λ (S : List Text). take w (slots l) ++ S) (sym q) ∙ g.kept;
            rest = next;
          }

      pub gaps_kept : (m : Text) → o ≡ Greater → slots m ≡ set (slots l) w s → length m ≡ length l → Gaps m (w + 1) (r + 1) d
      gaps_kept m z e q =
          let R : List Text = drop (r + 1) (take n (slots l₀)) in
          let t : without (slots_for f (drop d ds)) (drop r (take n (slots l₀))) ≡ s ∷ without (slots_for f (drop d ds)) R =
          still ∙ step_kept s R (slots_for f (drop d ds)) (sym eo ∙ z) in
          let k : take (w + 1) (slots m) ≡ take w (slots l) ++ (s ∷ []) = rw (e, add-one, take-suc-set (slots l) w s (omega (arith, length_slots l, g.size, g.fits, g.order))) in
          record {
            size = q ∙ g.size;
            fits = g.fits;
            order = omega (arith, g.order);
            end = omega arith;
            upto = g.upto;
            kept =
                ap (λ (S : List Text). S ++ without (slots_for f (drop d ds)) R) k ∙ append_assoc (take w (slots l)) (s ∷ []) (without (slots_for f (drop d ds)) R)
                ∙ ap (λ (S : List Text). take w (slots l) ++ S) (sym t) ∙ g.kept;
            rest = ap (drop (r + 1)) e ∙ drop-set-lt (r + 1) (slots l) w s (omega (arith, g.order)) ∙ next;
          }

pub ruleset for_compact = (rules, gaps_start, gaps_count, gaps_end, gaps_in)

-- keep_live: nothing is deleted
pub without_none : (ss : List Text) → without [] ss ≡ ss
unfolding without
without_none [] = refl
without_none (s ∷ ss) = ap (◌∷◌ s) (without_none ss)

module _ (f : Text) (ds : List ℕ) (h : length ds ≡ 0) (l : Text) (n : ℕ) where
  pub none_kept : take n (slots l) ≡ without (slots_for f ds) (take n (slots l))
  unfolding slots_for events_at
  none_kept = go ds h
    where
      go : (ps : List ℕ) → length ps ≡ 0 → take n (slots l) ≡ without (slots_for f ps) (take n (slots l))
      go [] e = sym (without_none (take n (slots l)))
      go (p ∷ ps) e = absurd (omega arith)

  pub none_count : n ≤ length l / 38 → n ≡ length (without (slots_for f ds) (take n (slots l)))
  none_count m = rw (← none_kept) (sym (length-take-le n (slots l) (omega (arith, length_slots l))))

pub ruleset for_keep_live = (rules, none_kept, none_count)
