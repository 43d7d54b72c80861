-- How many events there are once some are deleted and others added.
-- Assumes nothing.
use mathlib.Core.Path.{◌≡◌, refl, sym, ap, ◌∙◌, subst}
use mathlib.Core.Bool.{Bool, true, false, not, cond, ◌||◌}
use mathlib.Core.List.{List, [], ◌∷◌}
use Prim.Native.Nat.{ℕ, suc, ◌+◌}
use native.Mathlib.Omega.{arith}
use lib.ListN.{length}
use Rattle.house.specs.Text.{Text, any, how_many, same}
use Rattle.house.proofs.Decisions.{same_true, same_sym}
use Rattle.lines_places.specs.Inside.{Over, Asc}
use Rattle.lines_places.proofs.Order.{length_place}
use Rattle.ledger.specs.Ledger.{is_among, less, events_after}
use Rattle.ledger.specs.Updates.{whole}
use Rattle.ledger.proofs.AmongLaws.{below_differs, among_none}
use Rattle.ledger.proofs.LiveLaws.{plus_place}

-- those kept and those that are among the deleted
less_length : (ds es : List Text) → length (less ds es) + how_many (is_among ds) es ≡ length es
unfolding less
less_length ds [] = omega arith
less_length ds (e ∷ es) = go (is_among ds e) (less_length ds es)
  where
    go : (b : Bool) → length (less ds es) + how_many (is_among ds) es ≡ length es
        → length (cond (not b) (e ∷ less ds es) (less ds es)) + cond b (suc (how_many (is_among ds) es)) (how_many (is_among ds) es) ≡ suc (length es)
    go true r = omega arith
    go false r = omega arith

-- one delete more, which is not among the others
count_cons : (d : Text) (ds es : List Text) → is_among ds d ≡ false → how_many (is_among (d ∷ ds)) es ≡ how_many (same d) es + how_many (is_among ds) es
unfolding is_among
count_cons d ds [] h = omega arith
count_cons d ds (e ∷ es) h = go (same e d) refl (count_cons d ds es h)
  where
    go : (b : Bool) → same e d ≡ b → how_many (is_among (d ∷ ds)) es ≡ how_many (same d) es + how_many (is_among ds) es
        → cond (b || is_among ds e) (suc (how_many (is_among (d ∷ ds)) es)) (how_many (is_among (d ∷ ds)) es)
        ≡ cond (same d e) (suc (how_many (same d) es)) (how_many (same d) es) + cond (is_among ds e) (suc (how_many (is_among ds) es)) (how_many (is_among ds) es)
    go true q r =
        let n : is_among ds e ≡ false = ap (is_among ds) (same_true e d q) ∙ h in
        rw (n, same_sym d e, q) (omega arith)
    go false q r = rw (same_sym d e, q) (half (is_among ds e) r)
      where
        half : (c : Bool) → how_many (is_among (d ∷ ds)) es ≡ how_many (same d) es + how_many (is_among ds) es
            → cond c (suc (how_many (is_among (d ∷ ds)) es)) (how_many (is_among (d ∷ ds)) es) ≡ how_many (same d) es + cond c (suc (how_many (is_among ds) es)) (how_many (is_among ds) es)
        half true r = omega arith
        half false r = r

-- an event stands once at most in a list in strict order
count_above : (d : Text) (es : List Text) → Over whole d es → how_many (same d) es ≡ 0
count_above d [] o = refl
count_above d (e ∷ es) o = rw (below_differs d e o.0) (count_above d es o.1)

count_once : (d : Text) (es : List Text) → Asc whole es → how_many (same d) es ≡ cond (is_among es d) 1 0
unfolding is_among
count_once d [] a = refl
count_once d (e ∷ es) a = go (same d e) refl (count_once d es a.1)
  where
    go : (b : Bool) → same d e ≡ b → how_many (same d) es ≡ cond (is_among es d) 1 0 → cond b (suc (how_many (same d) es)) (how_many (same d) es) ≡ cond (b || any (same d) es) 1 0
    go true q r = ap suc (count_above d es (subst (λ (x : Text). Over whole x es) (sym (same_true d e q)) a.0))
    go false q r = r

count_none : (es : List Text) → how_many (is_among []) es ≡ 0
unfolding is_among
count_none [] = refl
count_none (e ∷ es) = count_none es

-- as many of the one are among the other as of the other among the one
count_swap : (ds es : List Text) → Asc whole ds → Asc whole es → how_many (is_among ds) es ≡ how_many (is_among es) ds
count_swap [] es a b = count_none es
count_swap (d ∷ ds) es a b =
    count_cons d ds es (among_none d ds a.0) ∙ ap (λ (n : ℕ). n + how_many (is_among ds) es) (count_once d es b)
    ∙ ap (λ (n : ℕ). cond (is_among es d) 1 0 + n) (count_swap ds es a.1 b) ∙ go (is_among es d)
  where
    go : (c : Bool) → cond c 1 0 + how_many (is_among es) ds ≡ cond c (suc (how_many (is_among es) ds)) (how_many (is_among es) ds)
    go true = omega arith
    go false = omega arith

pub after_length : (live added deleted : List Text) → Asc whole live → Asc whole deleted → length (events_after live added deleted) + how_many (is_among live) deleted ≡ length live + length added
unfolding events_after
after_length live added deleted a b =
    omega (arith, ap length (plus_place added (less deleted live)), length_place whole added (less deleted live), less_length deleted live, count_swap deleted live b a)
