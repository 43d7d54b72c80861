-- A line seen as one whose event no earlier block names: no more rules are broken.
-- Assumes nothing.
use mathlib.Core.Path.{◌≡◌, refl, sym, ap, ◌∙◌}
use mathlib.Core.Bool.{Bool, true, false}
use mathlib.Core.List.{List, [], ◌∷◌}
use Prim.Native.Nat.{ℕ, zero, suc, ◌+◌, ◌≤◌}
use native.Mathlib.Omega.{arith}
use lib.ListN.{length, length-append}
use Rattle.house.proofs.Small.{clash}
use Rattle.rules_definitions.specs.Seen.{Setting, Seen}
use Rattle.rules_definitions.specs.Rules.{Numbered, rule15, rule16, rule17, rule18, asks, rules_of, is_placed, rules_at, broken_at}
use Rattle.rules_definitions.specs.Findings.{found, fields_findings}
use Rattle.rules.specs.Under.{with_repeated}
use Rattle.rules.proofs.ReadLaws.{told, each_rule, fewer_broken}

-- where none does, it is seen as it is
pub alone_same : (v : Seen) → v.repeated ≡ false → with_repeated false v ≡ v
unfolding with_repeated
alone_same v h = ap (λ (b : Bool). told b v.live v) (sym h)

module _ (s : Setting) (v : Seen) where
  pub alone_at : (f : ℕ) → v.repeated ≡ false → broken_at s (with_repeated false v) f ≡ broken_at s v f
  alone_at f h = ap (λ (w : Seen). broken_at s w f) (alone_same v h)

  pub alone_fewer : (f : ℕ) → length (broken_at s (with_repeated false v) f) ≤ length (broken_at s v f)
  unfolding broken_at rules_at with_repeated rule15 rule16 rule17 rule18 asks
  alone_fewer f =
      fewer_broken s s (with_repeated false v) v f (is_placed v.line.kind f) (rules_of s)
      (each_rule s s.live v false v.live f (λ (x : Numbered). x.broken s (with_repeated false v) f ≡ true → x.broken s v f ≡ true) (λ x e h. e ∙ h) (λ h. clash (cc)) (λ h. h) (λ h. h) (λ h. h))

  found_length : (n f : ℕ) (rs : List ℕ) → length (found n f rs) ≡ length rs
  unfolding found
  found_length n f [] = refl
  found_length n f (r ∷ rs) = ap suc (found_length n f rs)

  pub alone_findings : (n f m : ℕ) → length (fields_findings s n (with_repeated false v) f m) ≤ length (fields_findings s n v f m)
  unfolding fields_findings
  alone_findings n f zero = omega arith
  alone_findings n f (suc m) =
      omega (
        arith,
        length-append (found n f (broken_at s (with_repeated false v) f)) (fields_findings s n (with_repeated false v) (f + 1) m),
        length-append (found n f (broken_at s v f)) (fields_findings s n v (f + 1) m),
        found_length n f (broken_at s (with_repeated false v) f),
        found_length n f (broken_at s v f),
        alone_fewer f,
        alone_findings n (f + 1) m,
      )
