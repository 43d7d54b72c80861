-- What each need of the functions on the forms of fields asks: the forms that are runs, dates, types and reasons.
-- Assumes nothing.
use mathlib.Core.Path.{◌≡◌, refl, sym, ap, ◌∙◌}
use mathlib.Core.Bool.{Bool, true, false, ◌&&◌, ◌||◌}
use mathlib.Core.List.{[], ◌∷◌}
use Prim.Native.Nat.{ℕ}
use native.Mathlib.Omega.{arith}
use borrow.Author.Rules.{rules}
use borrow.Author.Tests.{ne_eqb, eqb-true, eqb-false}
use lib.Dec.{eqb}
use lib.ListN.{length, get_or}
use Rattle.dates.specs.declared.Date.{Date}
use Rattle.house.specs.Text.{Text, all, same, run, digits, is_digit}
use Rattle.dates.specs.Dates.{is_date, dated_of}
use Rattle.house.proofs.Decisions.{is_same_lem, not_same}
use Rattle.house.proofs.Small.{Three, lt, eq, gt, three}
use Rattle.dates.proofs.DateLaws.{dated_true, dated_false}
use Rattle.rules_definitions.specs.Forms.{is_uli, is_type, is_reason}
use Rattle.rules_forms.proofs.ClassLaws.{run_short, run_long, run_all}
use Rattle.std.proofs.Common.{Option, Some, None}

-- A ULI
pub uli_is : (t : Text) (x : Bool) → length t ≡ 9 → x ≡ digits t → x ≡ is_uli t
unfolding is_uli digits
uli_is t x n e = run_all t 9 9 is_digit x (omega arith) (omega arith) e

pub uli_long : (t : Text) → (length t ≡ 9 → ⊥) → false ≡ is_uli t
unfolding is_uli
uli_long t n = go (three (length t) 9)
  where
    go : Three (length t) 9 → false ≡ run 9 9 is_digit t
    go (lt h) = run_short t 9 9 is_digit h
    go (eq h) = absurd (n h)
    go (gt h) = run_long t 9 9 is_digit h

pub ruleset for_uli = (rules, uli_is, uli_long)

-- is_date
module _ (t : Text) (d : Option Date) (e : d ≡ dated_of t) where
  pub date_day : (n : Date) → d ≡ Some n → true ≡ is_date t
  date_day n h = sym (dated_true t n (sym e ∙ h))

  pub date_none : d ≡ None → false ≡ is_date t
  date_none h = sym (dated_false t (sym e ∙ h))

pub ruleset for_is_date = (rules, date_day, date_none)

-- is_type
same_one : (b c : ℕ) → same (b ∷ []) (c ∷ []) ≡ eqb b c
same_one b c = go (eqb b c) refl
  where
    go : (x : Bool) → eqb b c ≡ x → same (b ∷ []) (c ∷ []) ≡ x
    go true e = ap (λ (n : ℕ). same (n ∷ []) (c ∷ [])) (eqb-true b c e) ∙ is_same_lem (c ∷ []) (c ∷ []) refl
    go false e = not_same (b ∷ []) (c ∷ []) (λ q. eqb-false b c e (let z : b ≡ c = cc in z))

module _ (t : Text) where
  pub type_long : (length t ≡ 1 → ⊥) → false ≡ is_type t
  unfolding is_type
  type_long n = simp (not_same t (65 ∷ []) (λ e. n (ap length e)), not_same t (67 ∷ []) (λ e. n (ap length e)), not_same t (68 ∷ []) (λ e. n (ap length e)))

type_one : (t : Text) → length t ≡ 1 → is_type t ≡ eqb (get_or t 0 0) 65 || (eqb (get_or t 0 0) 67 || (eqb (get_or t 0 0) 68 || false))
unfolding is_type
type_one [] h = absurd (omega arith)
type_one (b ∷ []) h = simp same_one
type_one (b ∷ c ∷ t) h = absurd (omega arith)

module _ (t : Text) (h : length t ≡ 1) where
  pub type_a : get_or t 0 0 ≡ 65 → true ≡ is_type t
  type_a e = rw (type_one t h, e)

  pub type_c : get_or t 0 0 ≡ 67 → true ≡ is_type t
  type_c e = rw (type_one t h, e)

  pub type_d : get_or t 0 0 ≡ 68 → true ≡ is_type t
  type_d e = rw (type_one t h, e)

  pub type_else : (get_or t 0 0 ≡ 65 → ⊥) → (get_or t 0 0 ≡ 67 → ⊥) → (get_or t 0 0 ≡ 68 → ⊥) → false ≡ is_type t
  type_else a c d = rw (type_one t h, ne_eqb _ _ a, ne_eqb _ _ c, ne_eqb _ _ d)

pub ruleset for_type = (rules, type_long, type_a, type_c, type_d, type_else)

-- is_reason
pub reason_one : (t : Text) (x : Bool) → length t ≡ 1 → x ≡ is_digit (get_or t 0 0) → x ≡ is_reason t
unfolding is_reason
reason_one [] x h e = absurd (omega arith)
reason_one (a ∷ []) x h e = e
reason_one (a ∷ b ∷ t) x h e = absurd (omega arith)

pub reason_long : (t : Text) → (length t ≡ 1 → ⊥) → (length t ≡ 2 → ⊥) → false ≡ is_reason t
unfolding is_reason
reason_long [] m n = refl
reason_long (a ∷ []) m n = absurd (m refl)
reason_long (a ∷ b ∷ []) m n = absurd (n refl)
reason_long (a ∷ b ∷ c ∷ t) m n = refl

pub reason_blank : (t : Text) (x : Bool) → length t ≡ 2 → get_or t 0 0 ≡ 32 → x ≡ is_digit (get_or t 1 0) → x ≡ is_reason t
unfolding is_reason is_digit
reason_blank [] x h k e = absurd (omega arith)
reason_blank (a ∷ []) x h k e = absurd (omega arith)
reason_blank (a ∷ b ∷ []) x h k e = rw k e
reason_blank (a ∷ b ∷ c ∷ t) x h k e = absurd (omega arith)

pub reason_two : (t : Text) (x : Bool) → length t ≡ 2 → (get_or t 0 0 ≡ 32 → ⊥) → x ≡ all is_digit t → x ≡ is_reason t
unfolding is_reason
reason_two [] x h k e = absurd (omega arith)
reason_two (a ∷ []) x h k e = absurd (omega arith)
reason_two (a ∷ b ∷ []) x h k e = rw (ne_eqb a 32 k) (e ∙ go (is_digit a) (is_digit b))
  where
    go : (u v : Bool) → u && (v && true) ≡ (u || false) && v
    go true true = refl
    go true false = refl
    go false v = refl
reason_two (a ∷ b ∷ c ∷ t) x h k e = absurd (omega arith)

pub ruleset for_reason = (rules, reason_one, reason_long, reason_blank, reason_two)
