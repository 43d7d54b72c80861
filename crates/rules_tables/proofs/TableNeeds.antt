-- What each need of the functions on reasons and on rule 9 asks.
-- Assumes nothing.
use mathlib.Core.Path.{◌≡◌, refl}
use mathlib.Core.Bool.{Bool, true, false}
use mathlib.Core.List.{[], ◌∷◌}
use native.Mathlib.Omega.{arith}
use borrow.Author.Rules.{rules}
use borrow.Author.Tests.{eq-eqb, ne_eqb}
use lib.ListN.{length, get_or}
use Rattle.house.specs.Text.{Text, same, pad}
use Rattle.rules_definitions.specs.Codes.{reason_read}
use Rattle.rules_definitions.specs.Rules.{without, site_wrong, method_wrong}

-- reason_read
pub read_none : (t : Text) → length t ≡ 0 → 32 ∷ 32 ∷ [] ≡ pad 2 (reason_read t)
unfolding pad reason_read
read_none [] h = refl
read_none (a ∷ t) h = absurd (omega arith)

pub read_one : (t : Text) → length t ≡ 1 → 48 ∷ get_or t 0 0 ∷ [] ≡ pad 2 (reason_read t)
unfolding pad reason_read
read_one [] h = absurd (omega arith)
read_one (a ∷ []) h = refl
read_one (a ∷ b ∷ t) h = absurd (omega arith)

pub read_blank : (t : Text) → (length t ≡ 0 → ⊥) → (length t ≡ 1 → ⊥) → get_or t 0 0 ≡ 32 → 48 ∷ get_or t 1 0 ∷ [] ≡ pad 2 (reason_read t)
unfolding pad reason_read
read_blank [] m n e = absurd (m refl)
read_blank (a ∷ []) m n e = absurd (n refl)
read_blank (a ∷ b ∷ t) m n e = rw (eq-eqb a 32 e)

pub read_two : (t : Text) → (length t ≡ 0 → ⊥) → (length t ≡ 1 → ⊥) → (get_or t 0 0 ≡ 32 → ⊥) → get_or t 0 0 ∷ get_or t 1 0 ∷ [] ≡ pad 2 (reason_read t)
unfolding pad reason_read
read_two [] m n e = absurd (m refl)
read_two (a ∷ []) m n e = absurd (n refl)
read_two (a ∷ b ∷ t) m n e = rw (ne_eqb a 32 e)

pub ruleset for_reason_read = (rules, read_none, read_one, read_blank, read_two)

-- without, rule9_site_wrong, rule9_method_wrong
module _ (x a y b : Text) (u : Bool) (e : u ≡ same x a) where
  pub without_other : u ≡ false → false ≡ without x a y b
  unfolding without
  without_other h = rw (← e, h)

  module _ (h : u ≡ true) (v : Bool) (f : v ≡ same y b) where
    pub without_both : v ≡ true → false ≡ without x a y b
    unfolding without
    without_both k = rw (← e, h, ← f, k)

    pub without_one : v ≡ false → true ≡ without x a y b
    unfolding without
    without_one k = rw (← e, h, ← f, k)

pub ruleset for_without = (rules, without_other, without_both, without_one)

module _ (s m : Text) (u : Bool) where
  pub site_first : u ≡ without m (80 ∷ 79 ∷ []) s (77 ∷ 79 ∷ []) → u ≡ true → true ≡ site_wrong s m
  unfolding site_wrong
  site_first e h = rw (← e, h)

  pub site_second : (v : Bool) → u ≡ without m (80 ∷ 79 ∷ []) s (77 ∷ 79 ∷ []) → u ≡ false → v ≡ without m (73 ∷ 78 ∷ []) s (78 ∷ 79 ∷ []) → v ≡ site_wrong s m
  unfolding site_wrong
  site_second v e h f = rw (← e, h) f

  pub method_first : u ≡ without s (77 ∷ 79 ∷ []) m (80 ∷ 79 ∷ []) → u ≡ true → true ≡ method_wrong s m
  unfolding method_wrong
  method_first e h = rw (← e, h)

  pub method_second : (v : Bool) → u ≡ without s (77 ∷ 79 ∷ []) m (80 ∷ 79 ∷ []) → u ≡ false → v ≡ without s (78 ∷ 79 ∷ []) m (73 ∷ 78 ∷ []) → v ≡ method_wrong s m
  unfolding method_wrong
  method_second v e h f = rw (← e, h) f

pub ruleset for_wrong = (rules, site_first, site_second, method_first, method_second)
