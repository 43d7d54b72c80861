-- What each need of one entry kept for each key asks.
-- Assumes nothing.
use mathlib.Core.Path.{◌≡◌, refl, sym, ap, ◌∙◌}
use mathlib.Core.Bool.{Bool, true, false}
use mathlib.Core.List.{List, [], ◌∷◌, ◌++◌, append-nil, append_assoc}
use Prim.Native.Nat.{ℕ, zero, suc, ◌+◌, ◌≤◌, ◌<◌}
use native.Mathlib.Omega.{arith}
use borrow.Author.Rules.{rules}
use lib.ListN.{length, get_or, drop, set, length-append}
use Rattle.house.specs.Text.{Text, same}
use Rattle.house.specs.Over.{over}
use Rattle.house.proofs.Suffix.{drop_here, drop_past}
use Rattle.house.proofs.OverLaws.{over_more, length_over}
use Rattle.lines_words.specs.Words.{apart_after, apart}

module _ (key : ℕ → Text) where
  -- one step
  pub after_none : (e : ℕ) → apart_after key e [] ≡ []
  unfolding apart_after
  after_none e = refl

  pub after_skip : (e f : ℕ) (fs : List ℕ) → same (key e) (key f) ≡ true → apart_after key e (f ∷ fs) ≡ apart_after key e fs
  unfolding apart_after
  after_skip e f fs h = rw h

  pub after_keep : (e f : ℕ) (fs : List ℕ) → same (key e) (key f) ≡ false → apart_after key e (f ∷ fs) ≡ f ∷ apart_after key f fs
  unfolding apart_after
  after_keep e f fs h = rw h

  pub apart_none : apart key [] ≡ []
  unfolding apart
  apart_none = refl

  pub apart_cons : (e : ℕ) (es : List ℕ) → apart key (e ∷ es) ≡ e ∷ apart_after key e es
  unfolding apart
  apart_cons e es = refl

-- what is not written over is read as it was
over_past : (ks l : List ℕ) (i : ℕ) → length ks ≤ i → get_or (over ks l) i 0 ≡ get_or l i 0
over_past [] l i h = refl
over_past (k ∷ ks) [] i h = refl
over_past (k ∷ ks) (x ∷ l) zero h = absurd (omega arith)
over_past (k ∷ ks) (x ∷ l) (suc i) h = over_past ks l i (omega arith)

-- keep_apart: the first i entries of the list l are gone through, and n of them are kept at the front of a; the last of these is e
pub record Keeping (key : ℕ → Text) (l a : List ℕ) (e n i : ℕ) : Type 0 where
  pub kept : List ℕ
  pub count : length kept ≡ n
  pub area : a ≡ over kept l
  pub whole : apart key l ≡ kept ++ apart_after key e (drop i l)
  pub fits : n ≤ i

module _ (key : ℕ → Text) (l : List ℕ) where
  module _ (h : length l ≡ 0) where
    none : (m : List ℕ) → length m ≡ 0 → apart key m ≡ []
    none [] k = apart_none key
    none (x ∷ m) k = absurd (omega arith)

    pub keep_none : 0 ≡ length (apart key l)
    keep_none = sym (ap length (none l h))

    pub keep_area : l ≡ over (apart key l) l
    keep_area = sym (ap (λ (k : List ℕ). over k l) (none l h))

  pub keep_start : (length l ≡ 0 → ⊥) → Keeping key l l (get_or l 0 0) 1 1
  keep_start h = go l h
    where
      go : (m : List ℕ) → (length m ≡ 0 → ⊥) → Keeping key m m (get_or m 0 0) 1 1
      go [] k = absurd (k refl)
      go (x ∷ m) k = record { kept = x ∷ []; count = refl; area = refl; whole = apart_cons key x m; fits = omega arith }

  module _ (a : List ℕ) (e n i : ℕ) (c : Keeping key l a e n i) where
    pub keep_size : length a ≡ length l
    keep_size = ap length c.area ∙ length_over c.kept l

    all_kept : length l ≤ i → apart key l ≡ c.kept
    all_kept h = c.whole ∙ rw (drop_past l i h, after_none key e) (append-nil c.kept)

    pub keep_count : length l ≤ i → n ≡ length (apart key l)
    keep_count h = sym (ap length (all_kept h) ∙ c.count)

    pub keep_over : length l ≤ i → a ≡ over (apart key l) l
    keep_over h = c.area ∙ ap (λ (k : List ℕ). over k l) (sym (all_kept h))

    pub keep_fits : n ≤ i
    keep_fits = c.fits

    module _ (h : i < length a) (r : Bool) (q : r ≡ same (key e) (key (get_or a i 0))) where
      here : get_or a i 0 ≡ get_or l i 0
      here = ap (λ (m : List ℕ). get_or m i 0) c.area ∙ over_past c.kept l i (omega (arith, c.count, c.fits))

      next : drop i l ≡ get_or a i 0 ∷ drop (i + 1) l
      next = rw here (drop_here l i (omega (arith, keep_size)))

      pub keep_skip : r ≡ true → Keeping key l a e n (i + 1)
      keep_skip z = record {
        kept = c.kept;
        count = c.count;
        area = c.area;
        whole = c.whole ∙ ap (λ (m : List ℕ). c.kept ++ m) (ap (apart_after key e) next ∙ after_skip key e (get_or a i 0) (drop (i + 1) l) (sym q ∙ z));
        fits = omega (arith, c.fits);
      }

      pub keep_one : r ≡ false → Keeping key l (set a n (get_or a i 0)) (get_or a i 0) (n + 1) (i + 1)
      keep_one z =
          let f : ℕ = get_or a i 0 in
          record {
            kept = c.kept ++ (f ∷ []);
            count = length-append c.kept (f ∷ []) ∙ omega (arith, c.count);
            area = ap (λ (m : List ℕ). set m n f) c.area ∙ ap (λ (k : ℕ). set (over c.kept l) k f) (sym c.count) ∙ sym (over_more c.kept f l);
            whole =
                c.whole ∙ ap (λ (m : List ℕ). c.kept ++ m) (ap (apart_after key e) next ∙ after_keep key e f (drop (i + 1) l) (sym q ∙ z))
                ∙ sym (append_assoc c.kept (f ∷ []) (apart_after key f (drop (i + 1) l)));
            fits = omega (arith, c.fits);
          }

pub ruleset for_keep_apart = (rules, keep_none, keep_area, keep_start, keep_size, keep_count, keep_over, keep_fits, keep_skip, keep_one)
