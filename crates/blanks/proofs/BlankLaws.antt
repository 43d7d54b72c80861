-- What each need of the crate's functions asks.
-- Assumes nothing.
use mathlib.Core.Path.{◌≡◌, refl, sym, ap, ◌∙◌}
use mathlib.Core.Bool.{Bool, true, false, cond, ◌&&◌}
use mathlib.Core.List.{[], ◌∷◌, ◌++◌}
use Prim.Native.Nat.{ℕ, suc, ◌+◌, ◌-◌, ◌≤◌, ◌<◌}
use native.Mathlib.Omega.{arith}
use borrow.Author.Rules.{rules}
use borrow.Author.Tests.{ne_eqb}
use lib.Dec.{eqb}
use lib.ListN.{length, get_or, take, drop}
use lib.Seq.{take_all, take-suc, take-add}
use Rattle.house.specs.Text.{Text, all, after_front, is_empty, is_blank}
use Rattle.house.proofs.Small.{both}
use Rattle.blanks.specs.Blanks.{without_last_blanks, trimmed}

-- all_blank: the answer, where o is greater than 0 if a byte before those of t is no blank
abbrev pub blanks_in : ℕ → Text → Bool
blanks_in o t = cond (eqb o 0) (all is_blank t) false

-- blanks behind a text do not matter
blanks_none : (u : Text) → all is_blank u ≡ true → without_last_blanks u ≡ []
unfolding without_last_blanks
blanks_none [] h = refl
blanks_none (b ∷ u) h =
    let p = both (is_blank b) (all is_blank u) h in
    rw (p.0, blanks_none u p.1)

pub blanks_behind : (s u : Text) → all is_blank u ≡ true → without_last_blanks (s ++ u) ≡ without_last_blanks s
unfolding without_last_blanks
blanks_behind [] u h = blanks_none u h
blanks_behind (b ∷ s) u h = rw (blanks_behind s u h)

-- a text that does not end with one stays
pub other_last : (s : Text) (b : ℕ) → (b ≡ 32 → ⊥) → without_last_blanks (s ++ (b ∷ [])) ≡ s ++ (b ∷ [])
unfolding without_last_blanks
other_last [] b n = rw (ne_eqb b 32 n)
other_last (c ∷ s) b n = rw (other_last s b n) (go (eqb c 32) s)
  where
    go : (t : Bool) (s : Text) → cond (t && is_empty (s ++ (b ∷ []))) [] (c ∷ (s ++ (b ∷ []))) ≡ c ∷ (s ++ (b ∷ []))
    go true [] = refl
    go true (d ∷ s) = refl
    go false s = refl

pub back_all : (t : Text) → without_last_blanks (take (length t) t) ≡ without_last_blanks t
back_all t = ap without_last_blanks (take_all (length t) t (omega arith))

module _ (t : Text) (n : ℕ) (h : n ≤ length t) (inv : without_last_blanks (take n t) ≡ without_last_blanks t) where
  -- the last part of a front
  parts : (m : ℕ) → m ≤ n → take n t ≡ take m t ++ take (n - m) (drop m t)
  parts m k = let e : m + (n - m) ≡ n = omega arith in ap (λ (i : ℕ). take i t) (sym e) ∙ take-add m (n - m) t

  pub back_on : (m : ℕ) (r : Bool) → m ≤ n → r ≡ all is_blank (take (n - (n - m)) (drop (n - m) t)) → r ≡ true
      → without_last_blanks (take (n - m) t) ≡ without_last_blanks t
  back_on m r k e z =
      sym (blanks_behind (take (n - m) t) (take (n - (n - m)) (drop (n - m) t)) (sym e ∙ z))
      ∙ ap without_last_blanks (sym (parts (n - m) (omega (arith, k)))) ∙ inv

  -- its last byte
  snoc : 0 < n → take n t ≡ take (n - 1) t ++ (get_or t (n - 1) 0 ∷ [])
  snoc k = let e : suc (n - 1) ≡ n = omega arith in ap (λ (i : ℕ). take i t) (sym e) ∙ take-suc t (n - 1) 0 (omega arith)

  pub back_one : 0 < n → get_or t (n - 1) 0 ≡ 32 → without_last_blanks (take (n - 1) t) ≡ without_last_blanks t
  back_one k e = sym (blanks_behind (take (n - 1) t) (get_or t (n - 1) 0 ∷ []) (rw e)) ∙ ap without_last_blanks (sym (snoc k)) ∙ inv

  pub back_here : 0 < n → (get_or t (n - 1) 0 ≡ 32 → ⊥) → take n t ≡ without_last_blanks t
  back_here k e = snoc k ∙ sym (other_last (take (n - 1) t) (get_or t (n - 1) 0) e) ∙ ap without_last_blanks (sym (snoc k)) ∙ inv

  pub back_none : n ≤ 0 → take 0 t ≡ without_last_blanks t
  unfolding without_last_blanks
  back_none k = let e : n ≡ 0 = omega arith in ap without_last_blanks (ap (λ (i : ℕ). take i t) (sym e)) ∙ inv

pub ruleset for_pass_back = (rules, back_on)

pub ruleset for_last_blanks = (rules, back_all, back_one, back_here, back_none)

-- trim
pub trim_is : (t r u : Text) → u ≡ without_last_blanks t → r ≡ after_front is_blank u → r ≡ trimmed t
unfolding trimmed
trim_is t r u a b = b ∙ ap (after_front is_blank) a

pub ruleset for_trim = (rules, trim_is)
