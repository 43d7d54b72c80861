-- `same` and `below` as decisions: two texts are the same exactly if they are equal, and `below` is a strict order in which any two texts stand.
-- Assumes nothing.
use mathlib.Core.Path.{◌≡◌, refl, sym, ap, ◌∙◌}
use mathlib.Core.Bool.{Bool, true, false}
use mathlib.Core.List.{[], ◌∷◌}
use mathlib.Core.Logic.{◌⊎◌, inl, inr}
use lib.Dec.{T}
use Rattle.std.specs.declared.cmp.Ordering.{Ordering}
use Rattle.std.specs.declared.cmp.Ordering.TheVariants.{Less, Equal, Greater}
use Rattle.house.specs.Text.{Text, order_of, is_less, is_same, below, same}
use Rattle.house.proofs.Small.{clash}
use Rattle.house.proofs.Facts.{is_true, of_true}
use Rattle.house.proofs.OrderAlgebra.{flip, same_eq, less_trans, cons_eq}
use Rattle.std.specs.Ordering.{ordering_reverse}

-- what an order says, and the order that says it
pub less_of : (o : Ordering) → T (is_less o) → o ≡ Less
less_of Less t = refl
less_of Equal t = absurd t
less_of Greater t = absurd t

pub same_of : (o : Ordering) → T (is_same o) → o ≡ Equal
same_of Less t = absurd t
same_of Equal t = refl
same_of Greater t = absurd t

pub order_refl : (a : Text) → order_of a a ≡ Equal
unfolding order_of
order_refl [] = refl
order_refl (x ∷ s) = cons_eq x x s s refl ∙ order_refl s

-- same
module _ (a b : Text) where
  pub same_is : T (same a b) → a ≡ b
  unfolding same
  same_is t = same_eq a b (same_of (order_of a b) t)

  pub is_same_lem : a ≡ b → same a b ≡ true
  unfolding same
  is_same_lem e = ap (λ (x : Text). is_same (order_of x b)) e ∙ ap is_same (order_refl b)

  pub same_true : same a b ≡ true → a ≡ b
  same_true e = same_is (of_true (same a b) e)

  pub is_same_t : a ≡ b → T (same a b)
  is_same_t e = of_true (same a b) (is_same_lem e)

  pub not_same : (a ≡ b → ⊥) → same a b ≡ false
  not_same n = go (same a b) refl
    where
      go : (t : Bool) → same a b ≡ t → t ≡ false
      go true e = absurd (n (same_true e))
      go false e = refl

pub same_sym : (a b : Text) → same a b ≡ same b a
unfolding same
same_sym a b = sym (ap is_same (flip a b) ∙ go (order_of a b))
  where
    go : (o : Ordering) → is_same (ordering_reverse o) ≡ is_same o
    go Less = refl
    go Equal = refl
    go Greater = refl

-- below
module _ (a b : Text) where
  pub below_less : T (below a b) → order_of a b ≡ Less
  unfolding below
  below_less t = less_of (order_of a b) t

  pub less_below : order_of a b ≡ Less → T (below a b)
  unfolding below
  less_below e = rw e tt

pub below_irrefl : (a : Text) → T (below a a) → ⊥
below_irrefl a t = clash (cc (below_less a a t, order_refl a))

pub below_trans : (a b c : Text) → T (below a b) → T (below b c) → T (below a c)
below_trans a b c p q = less_below a c (less_trans a b c (below_less a b p) (below_less b c q))

pub below_asym : (a b : Text) → T (below a b) → T (below b a) → ⊥
below_asym a b p q = below_irrefl a (below_trans a b a p q)

-- any two texts: one stands below the other, or they are the same
pub below_any : (a b : Text) → T (below a b) ⊎ ((a ≡ b) ⊎ T (below b a))
below_any a b = go (order_of a b) refl
  where
    go : (o : Ordering) → order_of a b ≡ o → T (below a b) ⊎ ((a ≡ b) ⊎ T (below b a))
    go Less e = inl (less_below a b e)
    go Equal e = inr (inl (same_eq a b e))
    go Greater e = inr (inr (less_below b a (flip a b ∙ ap ordering_reverse e)))

-- what is not above is below or the same
pub below_else : (a b : Text) → below a b ≡ false → (a ≡ b) ⊎ T (below b a)
below_else a b f = go (below_any a b)
  where
    go : T (below a b) ⊎ ((a ≡ b) ⊎ T (below b a)) → (a ≡ b) ⊎ T (below b a)
    go (inl t) = clash (cc (is_true (below a b) t))
    go (inr r) = r
