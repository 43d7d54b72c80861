-- What each need of `write6`, `put_finding`, `emit_one` and `emit` asks.
-- Assumes nothing.
use mathlib.Core.Path.{◌≡◌, refl, sym, ap, ◌∙◌}
use mathlib.Core.Bool.{Bool, true, false}
use mathlib.Core.List.{List, [], ◌∷◌, ◌++◌}
use Prim.Native.Nat.{ℕ, ◌+◌, ◌*◌, ◌/◌, ◌%◌, ◌≤◌, ◌<◌}
use native.Mathlib.Omega.{arith}
use borrow.Author.Rules.{rules}
use borrow.Author.Tests.{ne_eqb, lt-ltb, le-ltb}
use lib.Dec.{eqb}
use lib.ListN.{length, set, length-set}
use Rattle.house.proofs.Small.{clash}
use Rattle.house.specs.Text.{Text}
use Rattle.rules_definitions.specs.Findings.{Finding, found}
use Rattle.rules_fields.specs.declared.Broken.{Broken}
use Rattle.rules.specs.Inside.{kept, finding, put6, put, keep, some, listed}
use Rattle.rules.proofs.KeepLaws.{keep_append}

-- write6: the area is as long as before
module _ (s : Text) (at : ℕ) (h : at + 6 ≤ length s) where
  pub w2 : (a : ℕ) → at + 1 < length (set s at a)
  w2 a = simp length-set (omega arith)

  pub w3 : (a b : ℕ) → at + 2 < length (set (set s at a) (at + 1) b)
  w3 a b = simp length-set (omega arith)

  pub w4 : (a b c : ℕ) → at + 3 < length (set (set (set s at a) (at + 1) b) (at + 2) c)
  w4 a b c = simp length-set (omega arith)

  pub w5 : (a b c d : ℕ) → at + 4 < length (set (set (set (set s at a) (at + 1) b) (at + 2) c) (at + 3) d)
  w5 a b c d = simp length-set (omega arith)

  pub w6 : (a b c d e : ℕ) → at + 5 < length (set (set (set (set (set s at a) (at + 1) b) (at + 2) c) (at + 3) d) (at + 4) e)
  w6 a b c d e = simp length-set (omega arith)

pub written : (s : Text) (at n f r : ℕ)
    → set (set (set (set (set (set s at r) (at + 1) (n % 256)) (at + 2) (n / 256 % 256)) (at + 3) (n / 65536 % 256)) (at + 4) (n / 16777216 % 256)) (at + 5) (f % 256)
    ≡ put6 s at (finding n f r)
unfolding put6
written s at n f r = refl

pub ruleset for_write6 = (rules, w2, w3, w4, w5, w6, written)

-- put_finding, emit_one
module _ (s : Text) (k n f r : ℕ) where
  pub put_in_lem : (e : Text) → k < length s / 6 → e ≡ put6 s (6 * k) (finding n f r) → kept (k + 1) e ≡ put (finding n f r) (kept k s)
  unfolding put
  put_in_lem e h p = simp (lt-ltb _ _ h, p)

  pub put_out : length s / 6 ≤ k → kept (k + 1) s ≡ put (finding n f r) (kept k s)
  unfolding put
  put_out h = simp (le-ltb _ _ h)

  pub emit_none : r ≡ 0 → kept k s ≡ keep (found n f (some r)) (kept k s)
  unfolding keep found
  emit_none h = rw h

  pub emit_some : (j : ℕ) (e : Text) → (r ≡ 0 → ⊥) → kept j e ≡ put (finding n f r) (kept k s) → kept j e ≡ keep (found n f (some r)) (kept k s)
  unfolding keep found
  emit_some j e h p = rw (ne_eqb r 0 h) p

pub ruleset for_put = (rules, put_in_lem, put_out)

pub ruleset for_emit_one = (rules, emit_none, emit_some)

-- emit
found_append : (n f : ℕ) (rs qs : List ℕ) → found n f (rs ++ qs) ≡ found n f rs ++ found n f qs
unfolding found
found_append n f [] qs = refl
found_append n f (r ∷ rs) qs = ap (λ (l : List Finding). finding n f r ∷ l) (found_append n f rs qs)

pub emit_all : (n f k k1 k2 k3 : ℕ) (s s1 s2 s3 : Text) (b : Broken)
    → kept k1 s1 ≡ keep (found n f (some b.a)) (kept k s)
    → kept k2 s2 ≡ keep (found n f (some b.b)) (kept k1 s1)
    → kept k3 s3 ≡ keep (found n f (some b.c)) (kept k2 s2)
    → kept k3 s3 ≡ keep (found n f (listed b)) (kept k s)
unfolding listed
emit_all n f k k1 k2 k3 s s1 s2 s3 b p q r =
    r ∙ rw (q, p)
    (sym
    (rw (found_append n f (some b.a) (some b.b ++ some b.c), found_append n f (some b.b) (some b.c), keep_append, keep_append)))

pub emit_nothing : (n f k : ℕ) (s : Text) (b : Broken) (t : Bool) → (t ≡ true → listed b ≡ []) → t ≡ true → kept k s ≡ keep (found n f (listed b)) (kept k s)
unfolding keep found
emit_nothing n f k s b t e h = rw (e h)

pub ruleset for_emit = (rules, emit_nothing, emit_all)

-- is_none
module _ (b : Broken) where
  pub none_all : (t : Bool) → b.a ≡ 0 → b.b ≡ 0 → t ≡ eqb b.c 0 → t ≡ true → listed b ≡ []
  unfolding listed
  none_all t x y e h = rw (x, y, sym e ∙ h)

  pub none_not : false ≡ true → listed b ≡ []
  none_not h = clash (cc)

pub ruleset for_is_none = (rules, none_all, none_not)
