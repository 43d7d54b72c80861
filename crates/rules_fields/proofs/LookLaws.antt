-- What look-ups say of codes, as the functions on them need it.
-- Assumes nothing.
use mathlib.Core.Path.{◌≡◌, sym}
use mathlib.Core.Bool.{true, false, not, ◌||◌, and-true, and-false}
use Prim.Native.Nat.{ℕ}
use borrow.Author.Rules.{rules}
use Rattle.house.specs.Text.{Text}
use Rattle.book.specs.declared.Sections.{Sections}
use Rattle.book.specs.declared.Standing.{Standing}
use Rattle.book.specs.declared.Standing.TheVariants.{Unknown, OutOfForce, InForce}
use Rattle.book.specs.Book.{code_text}
use Rattle.book.specs.LookUp.{known_by, in_force_until_by, standing_by}
use Rattle.book.proofs.StandingLaws.{when_unknown, when_out, when_in}
use Rattle.rules_fields.specs.declared.Day.{Day}
use Rattle.rules_fields.specs.Fields.{rules4and5_of, is_out}

-- is_known
module _ (s : Text) (q : Sections) (k : ℕ) (x : Text) (d u : ℕ) (r : Standing) (e : r ≡ standing_by s q k x d u) where
  pub known_when_unknown : r ≡ Unknown → false ≡ known_by s q k x
  known_when_unknown z = sym (when_unknown s q k x d u r e z)

  pub known_when_out : r ≡ OutOfForce → true ≡ known_by s q k x
  known_when_out z = sym (when_out s q k x d u r e z).0

  pub known_when_in : r ≡ InForce → true ≡ known_by s q k x
  known_when_in z = sym (when_in s q k x d u r e z).0

module _ (s : Text) (q : Sections) (k : ℕ) (a b : Text) (day : Day) (r : Standing) (e : r ≡ standing_by s q k (code_text k a b) day.number day.until) where
  unknown : r ≡ Unknown → known_by s q k (code_text k a b) ≡ false
  unknown = when_unknown s q k (code_text k a b) day.number day.until r e

  out : r ≡ OutOfForce → (known_by s q k (code_text k a b) ≡ true) × (in_force_until_by s q day.number day.until k (code_text k a b) ≡ false)
  out = when_out s q k (code_text k a b) day.number day.until r e

  in_force_lem : r ≡ InForce → (known_by s q k (code_text k a b) ≡ true) × (in_force_until_by s q day.number day.until k (code_text k a b) ≡ true)
  in_force_lem = when_in s q k (code_text k a b) day.number day.until r e

  -- rules4_and_5_code
  pub later_unknown : r ≡ Unknown → 4 ≡ rules4and5_of false (known_by s q k (code_text k a b)) (is_out k (code_text k a b) s q day)
  unfolding rules4and5_of
  later_unknown z = rw (unknown z)

  pub later_in : r ≡ InForce → 0 ≡ rules4and5_of false (known_by s q k (code_text k a b)) (is_out k (code_text k a b) s q day)
  unfolding rules4and5_of
  later_in z = rw ((in_force_lem z).0, (in_force_lem z).1, and-false day.sound)

  pub rule5_out : r ≡ OutOfForce → day.sound ≡ true → 5 ≡ rules4and5_of false (known_by s q k (code_text k a b)) (is_out k (code_text k a b) s q day)
  unfolding rules4and5_of
  rule5_out z x = rw ((out z).0, (out z).1, x)

  pub later_undated : r ≡ OutOfForce → day.sound ≡ false → 0 ≡ rules4and5_of false (known_by s q k (code_text k a b)) (is_out k (code_text k a b) s q day)
  unfolding rules4and5_of
  later_undated z x = rw ((out z).0, x)

  -- pair_wrong
  pub pair_unknown : r ≡ Unknown → true ≡ not (known_by s q k (code_text k a b)) || is_out k (code_text k a b) s q day
  pair_unknown z = rw (unknown z)

  pub pair_in_lem : r ≡ InForce → false ≡ not (known_by s q k (code_text k a b)) || is_out k (code_text k a b) s q day
  pair_in_lem z = rw ((in_force_lem z).0, (in_force_lem z).1) (sym (and-false day.sound))

  pub pair_out : r ≡ OutOfForce → day.sound ≡ not (known_by s q k (code_text k a b)) || is_out k (code_text k a b) s q day
  pair_out z = rw ((out z).0, (out z).1) (sym (and-true day.sound))

pub ruleset for_known = (rules, known_when_unknown, known_when_out, known_when_in)

pub ruleset for_rules4_and_5_code = (rules, later_unknown, later_in, rule5_out, later_undated)

pub ruleset for_pair = (rules, pair_unknown, pair_in_lem, pair_out)
