-- What the causes 3 to 6 come to: the laws that docs/TRACE names, by which `pipe_last`, `may_follow` and `kind_cause` are proved.
-- Assumes nothing.
use mathlib.Core.Path.{◌≡◌, refl}
use mathlib.Core.Bool.{Bool, true, false, not}
use Prim.Native.Nat.{ℕ, ◌-◌}
use borrow.Author.Rules.{rules}
use borrow.Author.Tests.{eq-eqb, ne_eqb}
use lib.Dec.{eqb}
use lib.ListN.{length, get_or}
use Rattle.std.proofs.Common.{Some, None}
use Rattle.house.specs.Text.{Text}
use Rattle.lines_fields.specs.Lines.{pipe}
use Rattle.lines.specs.Records.{IV, IH, IP, II, IE, IN, IA, IF, count_of}
use Rattle.lines.specs.declared.Cause.TheVariants.{UnknownType, FieldCount, Order}
use Rattle.lines.specs.Shape.{follows, pipe_last}
use Rattle.lines.specs.Inside.{kind_cause}

-- pipe_last
pub last_is : (t : Text) → eqb (get_or t (length t - 1) 0) pipe ≡ pipe_last t
unfolding pipe_last
last_is t = refl

-- may_follow
module _ (k : ℕ) (v : k ≡ IV → ⊥) (h : k ≡ IH → ⊥) (p : k ≡ IP → ⊥) (i : k ≡ II → ⊥)
    (e : k ≡ IE → ⊥) (n : k ≡ IN → ⊥) (a : k ≡ IA → ⊥) (f : k ≡ IF → ⊥) where
  pub follow_none : (q : ℕ) → false ≡ follows q k
  unfolding follows
  follow_none q = simp (ne_eqb _ _ v, ne_eqb _ _ h, ne_eqb _ _ p, ne_eqb _ _ i, ne_eqb _ _ e, ne_eqb _ _ n, ne_eqb _ _ a, ne_eqb _ _ f)

pub ruleset for_may_follow = (rules, follow_none)

-- kind_cause
module _ (p k n : ℕ) where
  pub kind_unknown : k ≡ 0 → Some UnknownType ≡ kind_cause p k n
  unfolding kind_cause
  kind_unknown e = simp (eq-eqb _ _ e)

  module _ (z : k ≡ 0 → ⊥) (c : ℕ) (g : c ≡ count_of k) where
    pub kind_count : (n ≡ c → ⊥) → Some FieldCount ≡ kind_cause p k n
    unfolding kind_cause
    kind_count m = simp (ne_eqb _ _ z, ← g, ne_eqb _ _ m)

    module _ (e : n ≡ c) (f : Bool) (h : f ≡ follows p k) where
      pub kind_order : not f ≡ true → Some Order ≡ kind_cause p k n
      unfolding kind_cause
      kind_order t = simp (ne_eqb _ _ z, ← g, eq-eqb _ _ e, ← h, t)

      pub kind_right : not f ≡ false → None ≡ kind_cause p k n
      unfolding kind_cause
      kind_right t = simp (ne_eqb _ _ z, ← g, eq-eqb _ _ e, ← h, t)

pub ruleset for_kind_cause = (rules, kind_unknown, kind_count, kind_order, kind_right)
