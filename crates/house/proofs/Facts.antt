-- Tests as facts: what a Bool that holds says of its parts.
-- Assumes nothing.
use mathlib.Core.Path.{◌≡◌, refl, sym, subst}
use mathlib.Core.Bool.{Bool, true, false, ◌&&◌, ◌||◌}
use mathlib.Core.Logic.{◌⊎◌, inl, inr}
use lib.Dec.{T}

pub both : (a b : Bool) → T (a && b) → T a × T b
both true b t = (tt, t)
both false b t = absurd t

pub both3 : (a b c : Bool) → T (a && b && c) → T a × T b × T c
both3 a b c t = let p = both (a && b) c t in let q = both a b p.0 in (q.0, q.1, p.1)

pub both4 : (a b c d : Bool) → T (a && b && c && d) → T a × T b × T c × T d
both4 a b c d t = let p = both (a && b && c) d t in let q = both3 a b c p.0 in (q.0, q.1, q.2, p.1)

pub both5 : (a b c d e : Bool) → T (a && b && c && d && e) → T a × T b × T c × T d × T e
both5 a b c d e t = let p = both (a && b && c && d) e t in let q = both4 a b c d p.0 in (q.0, q.1, q.2, q.3, p.1)

pub both_of : (a b : Bool) → T a → T b → T (a && b)
both_of true b t u = u
both_of false b t u = absurd t

pub either : (a b : Bool) → T (a || b) → T a ⊎ T b
either true b t = inl tt
either false b t = inr t

pub left_of : (a b : Bool) → T a → T (a || b)
left_of true b t = tt
left_of false b t = absurd t

pub right_of : (a b : Bool) → T b → T (a || b)
right_of true b t = tt
right_of false b t = t

pub is_true : (b : Bool) → T b → b ≡ true
is_true true t = refl
is_true false t = absurd t

pub of_true : (b : Bool) → b ≡ true → T b
of_true b e = subst T (sym e) tt

-- two tests that hold together are the same
pub bool_ext : (a b : Bool) → (T a → T b) → (T b → T a) → a ≡ b
bool_ext true true f g = refl
bool_ext true false f g = absurd (f tt)
bool_ext false true f g = absurd (g tt)
bool_ext false false f g = refl
