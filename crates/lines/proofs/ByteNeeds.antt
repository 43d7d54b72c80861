-- What each need of `is_printable`, `is_plain_but`, `no_stray`, `is_plain` and `has_right_bytes` asks.
-- Assumes nothing.
use mathlib.Core.Path.{◌≡◌, refl, sym, ap, ◌∙◌}
use mathlib.Core.Bool.{Bool, true, false, not, cond, ◌&&◌}
use mathlib.Core.List.{[], ◌∷◌}
use Prim.Native.Nat.{ℕ, ◌+◌, ◌-◌, ◌≤◌, ◌<◌}
use native.Mathlib.Omega.{arith}
use borrow.Author.Rules.{rules}
use borrow.Author.Tests.{eq-eqb, ne_eqb, eqb-true, lt-ltb, le-ltb, ltb-true, ltb-false, le-leb, lt-leb}
use lib.Dec.{eqb, ltb, leb}
use lib.ListN.{length, get_or, drop}
use Rattle.house.specs.Text.{Text, all, within}
use Rattle.house.specs.Numbers.{lesser_of, greater_of}
use Rattle.house.proofs.Small.{clash}
use Rattle.house.proofs.Suffix.{drop_here, drop_past}
use Rattle.house.proofs.PadLaws.{either, lesser_low, greater_high}
use Rattle.lines_fields.specs.Lines.{LF, CR}
use Rattle.lines.specs.Shape.{printable}
use Rattle.lines.specs.Inside.{raised_of, plain_but, stray_at, no_stray, plain}
use Rattle.lines.proofs.PlainLaws.{lf_plain, crlf_plain}

-- is_printable
pub printable_within : (t : Text) (r : Bool) → r ≡ all (within 32 126) t → r ≡ printable t
unfolding printable
printable_within t r e = e ∙ go t
  where
    one : (b : ℕ) (p q : Bool) (c : Bool) → ltb b 32 ≡ p → ltb 126 b ≡ q → (leb 32 b && leb b 126) && c ≡ cond p false (cond q false c)
    one b true q c e f = rw (lt-leb 32 b (ltb-true b 32 e))
    one b false true c e f = rw (le-leb 32 b (ltb-false b 32 e), lt-leb b 126 (ltb-true 126 b f))
    one b false false c e f = rw (le-leb 32 b (ltb-false b 32 e), le-leb b 126 (ltb-false 126 b f))

    go : (t : Text) → all (within 32 126) t ≡ printable t
    go [] = refl
    go (b ∷ t) = one b (ltb b 32) (ltb 126 b) (all (within 32 126) t) refl refl ∙ ap (λ (c : Bool). cond (ltb b 32) false (cond (ltb 126 b) false c)) (go t)

pub ruleset for_is_printable = (rules, printable_within)

-- four tests, one after the other or two and two
in_turn : (p q u v w : Bool) → cond p false (cond q false (cond u false (cond v false w))) ≡ cond (either p u) false (cond (either q v) false w)
unfolding either
in_turn true q u v w = refl
in_turn false true true v w = refl
in_turn false true false v w = refl
in_turn false false true v w = refl
in_turn false false false true w = refl
in_turn false false false false w = refl

-- is_plain_but: the answer, where the bytes before those of t are no less than l and no greater than h
abbrev pub plain_in : ℕ → ℕ → ℕ → Text → Bool
plain_in e l h t = cond (ltb l 32) false (cond (ltb 126 h) false (plain_but e t))

pub but_holds : (e : ℕ) (t : Text) → plain_but e t ≡ plain_in e 32 126 (drop 0 t)
but_holds e t = refl

module _ (e : ℕ) (t : Text) (i l h : ℕ) (x : Bool) (inv : x ≡ plain_in e l h (drop i t)) where
  pub but_on : (r m n : ℕ) → i < length t → r ≡ raised_of e (get_or t i 0) → m ≡ lesser_of l r → n ≡ greater_of h (get_or t i 0) → x ≡ plain_in e m n (drop (i + 1) t)
  unfolding plain_but
  but_on r m n k d f g =
      inv ∙ rw (drop_here t i k, f, g, lesser_low 32, greater_high 126, d) (in_turn (ltb l 32) (ltb 126 h) (ltb (raised_of e (get_or t i 0)) 32) (ltb 126 (get_or t i 0)) (plain_but e (drop (i + 1) t)))

  module _ (k : length t ≤ i) where
    pub but_low : l < 32 → false ≡ x
    but_low m = rw (inv, lt-ltb _ _ m)

    pub but_high : 32 ≤ l → leb h 126 ≡ x
    unfolding plain_but
    but_high m = rw (inv, le-ltb _ _ m, drop_past t i k) (go (ltb 126 h) refl)
      where
        go : (u : Bool) → ltb 126 h ≡ u → leb h 126 ≡ cond u false true
        go true e = lt-leb h 126 (ltb-true 126 h e)
        go false e = le-leb h 126 (ltb-false 126 h e)

pub ruleset for_is_plain_but = (rules, but_holds, but_on, but_low, but_high)

-- no_stray: the answer, where so many CR are stray before those of t, none or some
abbrev pub stray_in : ℕ → Text → Bool
stray_in r t = cond (eqb r 0) (no_stray t) false

pub stray_empty : (t : Text) → length t ≡ 0 → true ≡ no_stray t
unfolding no_stray
stray_empty [] e = refl
stray_empty (b ∷ t) e = absurd (omega arith)

pub stray_holds : (t : Text) → no_stray t ≡ stray_in 0 (drop (1 - 1) t)
stray_holds t = refl

greater_none : (r s : ℕ) → eqb (greater_of r s) 0 ≡ (eqb r 0 && eqb s 0)
greater_none r s = go (ltb r s) refl (eqb r 0) refl
  where
    go : (u : Bool) → ltb r s ≡ u → (v : Bool) → eqb r 0 ≡ v → eqb (cond u s r) 0 ≡ (v && eqb s 0)
    go true e true f = refl
    go true e false f = ne_eqb s 0 (λ z. let h : r < s = ltb-true r s e in omega arith)
    go false e true f = f ∙ sym (eq-eqb s 0 (let h : s ≤ r = ltb-false r s e in let k : r ≡ 0 = eqb-true r 0 f in omega arith))
    go false e false f = f

module _ (t : Text) (i r : ℕ) (x : Bool) (low : 1 ≤ i) (inv : x ≡ stray_in r (drop (i - 1) t)) where
  pub stray_on : (s m : ℕ) → i < length t → s ≡ stray_at (get_or t (i - 1) 0) (get_or t i 0) → m ≡ greater_of r s → x ≡ stray_in m (drop (i + 1 - 1) t)
  unfolding no_stray
  stray_on s m h e f =
      let q : i - 1 + 1 ≡ i = omega arith in
      let p : i + 1 - 1 ≡ i = omega arith in
      let d : drop (i - 1) t ≡ get_or t (i - 1) 0 ∷ (get_or t i 0 ∷ drop (i + 1) t) =
      drop_here t (i - 1) (omega arith) ∙ ap (λ (k : ℕ). get_or t (i - 1) 0 ∷ drop k t) q ∙ ap (λ (u : Text). get_or t (i - 1) 0 ∷ u) (drop_here t i h) in
      inv ∙ ap (stray_in r) d ∙ rw (p, drop_here t i h, f, greater_none r s, ← e) (go (eqb r 0) (eqb s 0) (no_stray (get_or t i 0 ∷ drop (i + 1) t)))
    where
      go : (u v w : Bool) → cond u (v && w) false ≡ cond (u && v) w false
      go true true w = refl
      go true false w = refl
      go false v w = refl

  pub stray_some : (r ≡ 0 → ⊥) → false ≡ x
  stray_some n = rw (inv, ne_eqb r 0 n)

  pub stray_last : i ≤ length t → length t ≤ i → r ≡ 0 → not (eqb (get_or t (i - 1) 0) CR) ≡ x
  unfolding no_stray
  stray_last h k n =
      let q : i - 1 + 1 ≡ i = omega arith in
      let d : drop (i - 1) t ≡ get_or t (i - 1) 0 ∷ [] =
      drop_here t (i - 1) (omega arith) ∙ ap (λ (k : ℕ). get_or t (i - 1) 0 ∷ drop k t) q ∙ ap (λ (u : Text). get_or t (i - 1) 0 ∷ u) (drop_past t i k) in
      rw (inv, d, eq-eqb r 0 n) (go (eqb (get_or t (i - 1) 0) CR))
    where
      go : (u : Bool) → not u ≡ (not u && true)
      go true = refl
      go false = refl

pub ruleset for_no_stray = (rules, stray_empty, stray_holds, stray_on, stray_some, stray_last)

-- is_plain
module _ (s : Text) (r : Bool) where
  pub plain_lf : r ≡ plain_but LF s → r ≡ true → plain s ≡ true
  plain_lf e f = lf_plain s (sym e ∙ f)

  pub plain_crlf : (n : Bool) → n ≡ no_stray s → n ≡ true → r ≡ plain_but CR s → r ≡ true → plain s ≡ true
  plain_crlf n e f g h = crlf_plain s (sym e ∙ f) (sym g ∙ h)

pub plain_not : (s : Text) → false ≡ true → plain s ≡ true
plain_not s h = clash (cc)

pub ruleset for_is_plain = (rules, plain_lf, plain_crlf, plain_not)

-- has_right_bytes
module _ (t : Text) (p : Bool) where
  pub right_known : (p ≡ true → printable t ≡ true) → p ≡ true → true ≡ printable t
  right_known h e = sym (h e)

pub ruleset for_has_right_bytes = (rules, right_known)
