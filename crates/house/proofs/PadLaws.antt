-- What each need of `rises_at`, `no_rise` and `is_padded` asks, and what `all_within` holds to.
-- Assumes nothing.
use mathlib.Core.Path.{◌≡◌, refl, sym, ap, ◌∙◌, subst}
use mathlib.Core.Bool.{Bool, true, false, not, cond, ◌&&◌}
use mathlib.Core.List.{[], ◌∷◌}
use Prim.Native.Nat.{ℕ, suc, ◌+◌, ◌-◌, ◌≤◌, ◌<◌}
use native.Mathlib.Omega.{arith}
use borrow.Author.Rules.{rules}
use borrow.Author.Tests.{eq-eqb, ne_eqb, eqb-true, eqb-false, lt-ltb, le-ltb, ltb-true, ltb-false, le-leb, lt-leb, leb-true, leb-false}
use lib.Dec.{eqb, ltb, leb}
use lib.ListN.{length, get_or, drop, length-drop}
use Rattle.house.specs.Text.{Text, all, within, is_blank, is_graphic, graphic_len, is_padded}
use Rattle.house.specs.Numbers.{lesser_of, greater_of}
use Rattle.house.specs.Inside.{rises_at, stays_at, no_rise}
use Rattle.house.proofs.Small.{both}
use Rattle.house.proofs.Suffix.{drop_here}

-- all_within: the answer, where the bytes before those of t are no less than l and no greater than h
abbrev pub range_in : ℕ → ℕ → ℕ → ℕ → Text → Bool
range_in lo hi l h t = cond (ltb l lo) false (cond (ltb hi h) false (all (within lo hi) t))

-- a test of one bound is a test of both numbers
unfoldable pub either : Bool → Bool → Bool
either p q = cond p true q

pub lesser_low : (lo l b : ℕ) → ltb (lesser_of l b) lo ≡ either (ltb l lo) (ltb b lo)
unfolding either
lesser_low lo l b = go (ltb b l) (ltb l lo) refl refl
  where
    go : (u v : Bool) → ltb b l ≡ u → ltb l lo ≡ v → ltb (cond u b l) lo ≡ cond v true (ltb b lo)
    go true true e f = lt-ltb b lo (omega (arith, ltb-true b l e, ltb-true l lo f))
    go true false e f = refl
    go false true e f = f
    go false false e f = f ∙ sym (le-ltb b lo (omega (arith, ltb-false b l e, ltb-false l lo f)))

pub greater_high : (hi h b : ℕ) → ltb hi (greater_of h b) ≡ either (ltb hi h) (ltb hi b)
unfolding either
greater_high hi h b = go (ltb h b) (ltb hi h) refl refl
  where
    go : (u v : Bool) → ltb h b ≡ u → ltb hi h ≡ v → ltb hi (cond u b h) ≡ cond v true (ltb hi b)
    go true true e f = lt-ltb hi b (omega (arith, ltb-true h b e, ltb-true hi h f))
    go true false e f = refl
    go false true e f = f
    go false false e f = f ∙ sym (le-ltb hi b (omega (arith, ltb-false h b e, ltb-false hi h f)))

-- rises_at
pub rises_is : (a b r : ℕ) → r ≡ cond (eqb a 32 && not (eqb b 32)) 1 0 → r ≡ rises_at a b
unfolding rises_at
rises_is a b r e = e ∙ go (eqb a 32) (eqb b 32)
  where
    go : (u v : Bool) → ◌≡◌ {A = ℕ} (cond (u && not v) 1 0) (cond u (cond v 0 1) 0)
    go true true = refl
    go true false = refl
    go false v = refl

pub ruleset for_rises_at = (rules, rises_is)

-- no_rise: the answer, where so many bytes rise before those of t, none or some
abbrev pub steady_in : ℕ → Text → Bool
steady_in r t = cond (eqb r 0) (no_rise t) false

greater_none : (r s : ℕ) → eqb (cond (ltb r s) s r) 0 ≡ (eqb r 0 && eqb s 0)
greater_none r s = go (ltb r s) refl (eqb r 0) refl
  where
    go : (u : Bool) → ltb r s ≡ u → (v : Bool) → eqb r 0 ≡ v → eqb (cond u s r) 0 ≡ (v && eqb s 0)
    go true e true f = refl
    go true e false f = ne_eqb s 0 (λ z. let h : r < s = ltb-true r s e in omega arith)
    go false e true f = f ∙ sym (eq-eqb s 0 (let h : s ≤ r = ltb-false r s e in let k : r ≡ 0 = eqb-true r 0 f in omega arith))
    go false e false f = f

module _ (t : Text) (i r : ℕ) (x : Bool) (low : 1 ≤ i) (inv : x ≡ steady_in r (drop (i - 1) t)) where
  pub steady_on : (s m : ℕ) → i < length t → s ≡ rises_at (get_or t (i - 1) 0) (get_or t i 0) → m ≡ cond (ltb r s) s r → x ≡ steady_in m (drop (i + 1 - 1) t)
  unfolding no_rise
  steady_on s m h e f =
      let q : i - 1 + 1 ≡ i = omega arith in
      let p : i + 1 - 1 ≡ i = omega arith in
      let d : drop (i - 1) t ≡ get_or t (i - 1) 0 ∷ (get_or t i 0 ∷ drop (i + 1) t) =
      drop_here t (i - 1) (omega arith) ∙ ap (λ (k : ℕ). get_or t (i - 1) 0 ∷ drop k t) q ∙ ap (λ (u : Text). get_or t (i - 1) 0 ∷ u) (drop_here t i h) in
      inv ∙ ap (steady_in r) d ∙ rw (p, drop_here t i h, f, greater_none r s, ← e) (go (eqb r 0) (eqb s 0) (no_rise (get_or t i 0 ∷ drop (i + 1) t)))
    where
      go : (u v w : Bool) → cond u (v && w) false ≡ cond (u && v) w false
      go true true w = refl
      go true false w = refl
      go false v w = refl

  pub steady_end : length t ≤ i → eqb r 0 ≡ x
  unfolding no_rise
  steady_end h = rw (inv, short (drop (i - 1) t) (omega (arith, length-drop (i - 1) t))) (go (eqb r 0))
    where
      go : (u : Bool) → u ≡ cond u true false
      go true = refl
      go false = refl

      short : (u : Text) → length u ≤ 1 → no_rise u ≡ true
      short [] k = refl
      short (b ∷ []) k = refl
      short (b ∷ (c ∷ u)) k = absurd (omega arith)

pub ruleset for_no_rise = (rules, steady_on, steady_end)

-- is_padded

-- after a blank
blanks_stay : (a : ℕ) (t : Text) → a ≡ 32 → (all (within 32 126) t && (stays_at a t && no_rise t)) ≡ all is_blank t
unfolding no_rise rises_at
blanks_stay a [] e = refl
blanks_stay a (b ∷ t) e = rw (eq-eqb a 32 e) (go (eqb b 32) refl (blanks_stay b t))
  where
    go : (u : Bool) → eqb b 32 ≡ u → (b ≡ 32 → (all (within 32 126) t && (stays_at b t && no_rise t)) ≡ all is_blank t)
        → ((within 32 126 b && all (within 32 126) t) && (eqb (cond u 0 1) 0 && (stays_at b t && no_rise t))) ≡ (u && all is_blank t)
    go true f r = let k : b ≡ 32 = eqb-true b 32 f in rw (le-leb 32 b (omega arith), le-leb b 126 (omega arith)) (r k)
    go false f r = none (within 32 126 b && all (within 32 126) t)
      where
        none : (v : Bool) → (v && false) ≡ false
        none true = refl
        none false = refl

stays_other : (a : ℕ) (t : Text) → (a ≡ 32 → ⊥) → stays_at a t ≡ true
unfolding rises_at
stays_other a [] n = refl
stays_other a (b ∷ t) n = rw (ne_eqb a 32 n)

narrow : (a : ℕ) → (a ≡ 32 → ⊥) → within 33 126 a ≡ within 32 126 a
narrow a n = go (leb 32 a) refl
  where
    go : (u : Bool) → leb 32 a ≡ u → (leb 33 a && leb a 126) ≡ (u && leb a 126)
    go true e = let h : 32 ≤ a = leb-true 32 a e in let k : 32 < a = other h in rw (le-leb 33 a k)
      where
        other : 32 ≤ a → 32 < a
        other h = past (ltb 32 a) refl
          where
            past : (v : Bool) → ltb 32 a ≡ v → 32 < a
            past true f = ltb-true 32 a f
            past false f = absurd (n (omega (arith, ltb-false 32 a f)))
    go false e = let h : a < 32 = leb-false 32 a e in rw (lt-leb 33 a (omega arith))

-- from a byte on
abbrev Stays : ℕ → Text → Type 0
Stays a t =
    ((within 32 126 a && all (within 32 126) t) && (stays_at a t && no_rise t)) ≡ all is_blank (drop (cond (within 33 126 a) (suc (graphic_len t)) 0) (a ∷ t))

stays_blank : (t : Text) → Stays 32 t
stays_blank t = blanks_stay 32 t refl

pads_stay : (t : Text) → (all (within 32 126) t && no_rise t) ≡ all is_blank (drop (graphic_len t) t)
unfolding graphic_len is_graphic no_rise
pads_stay [] = refl
pads_stay (a ∷ t) = go (eqb a 32) refl (pads_stay t)
  where
    go : (u : Bool) → eqb a 32 ≡ u → (all (within 32 126) t && no_rise t) ≡ all is_blank (drop (graphic_len t) t) → Stays a t
    go true e r = subst (λ (b : ℕ). Stays b t) (sym (eqb-true a 32 e)) (stays_blank t)
    go false e r = rw (narrow a (eqb-false a 32 e), stays_other a t (eqb-false a 32 e)) (in_range (within 32 126 a))
      where
        in_range : (w : Bool) → ((w && all (within 32 126) t) && (true && no_rise t)) ≡ all is_blank (drop (cond w (suc (graphic_len t)) 0) (a ∷ t))
        in_range true = r
        in_range false = rw e

graphic_first : (t : Text) → (length t ≡ 0 → ⊥) → (get_or t 0 0 ≡ 32 → ⊥) → all (within 32 126) t ≡ true → ltb 0 (graphic_len t) ≡ true
unfolding graphic_len is_graphic
graphic_first [] h n q = absurd (h refl)
graphic_first (b ∷ t) h n q = rw (narrow b n, (both (within 32 126 b) (all (within 32 126) t) q).0) (lt-ltb 0 (suc (graphic_len t)) (omega arith))

pub padded_empty : (t : Text) → length t ≡ 0 → false ≡ is_padded t
unfolding is_padded graphic_len
padded_empty [] h = refl
padded_empty (b ∷ t) h = absurd (omega arith)

pub padded_blank : (t : Text) → (length t ≡ 0 → ⊥) → get_or t 0 0 ≡ 32 → false ≡ is_padded t
unfolding is_padded graphic_len is_graphic
padded_blank [] h e = absurd (h refl)
padded_blank (b ∷ t) h e = rw e

module _ (t : Text) (w : Bool) (ew : w ≡ all (within 32 126) t) where
  pub padded_out : w ≡ false → false ≡ is_padded t
  unfolding is_padded
  padded_out z = rw (← pads_stay t, ← ew, z) (go (ltb 0 (graphic_len t)))
    where
      go : (u : Bool) → false ≡ (u && false)
      go true = refl
      go false = refl

  pub padded_on : (r : Bool) → (length t ≡ 0 → ⊥) → (get_or t 0 0 ≡ 32 → ⊥) → w ≡ true → r ≡ no_rise t → r ≡ is_padded t
  unfolding is_padded
  padded_on r h n z e = rw (← pads_stay t, ← ew, z, graphic_first t h n (sym ew ∙ z)) e

pub ruleset for_is_padded = (rules, padded_empty, padded_blank, padded_out, padded_on)
