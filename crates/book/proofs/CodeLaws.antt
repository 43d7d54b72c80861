-- What each need of `has_code` and `code_order` asks, and eight bytes that are all nines.
-- Assumes nothing.
use mathlib.Core.Path.{◌≡◌, refl, sym, ap, ◌∙◌}
use mathlib.Core.Bool.{Bool, true, false, ◌&&◌}
use mathlib.Core.List.{[], ◌∷◌}
use Prim.Native.Nat.{ℕ, zero, suc, ◌+◌, ◌-◌, ◌≤◌}
use native.Mathlib.Nat.{add-sub_cancel_left}
use native.Mathlib.Omega.{arith}
use borrow.Author.Tests.{eqb-true}
use borrow.Author.Rules.{rules}
use lib.Dec.{eqb}
use lib.ListN.{length, take, drop, length-drop}
use lib.Seq.{drop-drop, take-add, length-take-le}
use Rattle.house.specs.Text.{Text, all, number, is_same, order_of, pad}
use Rattle.std.specs.declared.cmp.Ordering.{Ordering}
use Rattle.std.specs.declared.cmp.Ordering.TheVariants.{Less, Equal, Greater}
use Rattle.house.proofs.Small.{both}
use Rattle.house.proofs.OrderAlgebra.{order_append}
use Rattle.house.proofs.OrderLaws.{length_pad}
use Rattle.book.specs.Inside.{is_byte, code_order, Tells, Blank, Stands}
use Rattle.book.proofs.FilledLaws.{filled_is, unfilled}
use Rattle.std.specs.Ordering.{ordering_then}

-- eight bytes that are all the same
abbrev copies : ℕ → ℕ → Text
copies zero v = []
copies (suc n) v = v ∷ copies n v

same_bytes : (v : ℕ) (t : Text) → all (is_byte v) t ≡ true → t ≡ copies (length t) v
same_bytes v [] h = refl
same_bytes v (b ∷ t) h =
    let p = both (eqb b v) (all (is_byte v) t) h in
    ap (λ (x : ℕ). x ∷ t) (eqb-true b v p.0) ∙ ap (λ (u : Text). v ∷ u) (same_bytes v t p.1)

pub eight_nines : (s : Text) (i : ℕ) → i + 8 ≤ length s → all (is_byte 57) (take 8 (drop i s)) ≡ true → 99999999 ≡ number (take 8 (drop i s))
unfolding number
eight_nines s i l h =
    let n : length (take 8 (drop i s)) ≡ 8 = length-take-le 8 (drop i s) (omega (arith, length-drop i s)) in
    let e : take 8 (drop i s) ≡ copies 8 57 = same_bytes 57 (take 8 (drop i s)) h ∙ ap (λ (j : ℕ). copies j 57) n in
    rw e

-- has_code, code_order
module _ (s : Text) (at p q : ℕ) (l : at + p + q ≤ length s) where
  -- a part of the book, as the code lends it
  part_is : (i w : ℕ) → take (i + w - i) (drop i s) ≡ take w (drop i s)
  part_is i w =
      let n : i + w - i ≡ w = add-sub_cancel_left i w in
      rw n

  part_long : (i w : ℕ) → i + w ≤ length s → length (take (i + w - i) (drop i s)) ≡ w
  part_long i w h = ap length (part_is i w) ∙ length-take-le w (drop i s) (omega (arith, length-drop i s))

  -- against a padded text
  part : (i w : ℕ) (x : Text) → i + w ≤ length s → order_of (take (i + w - i) (drop i s)) (pad (length (take (i + w - i) (drop i s))) x) ≡ order_of (take w (drop i s)) (pad w x)
  part i w x h = rw (part_long i w h, part_is i w)

  module _ (a b : Text) where
    whole : code_order s at p q a b ≡ ordering_then (order_of (take p (drop at s)) (pad p a)) (order_of (take q (drop (at + p) s)) (pad q b))
    unfolding code_order
    whole =
        let d : drop p (drop at s) ≡ drop (at + p) s = drop-drop p at s in
        let n : length (take p (drop at s)) ≡ length (pad p a) = length-take-le p (drop at s) (omega (arith, length-drop at s)) ∙ sym (length_pad p a) in
        rw (take-add p q (drop at s), d) (order_append (take p (drop at s)) (pad p a) (take q (drop (at + p) s)) (pad q b) n)

    -- how the first stands
    module _ (o : Ordering) (e : o ≡ order_of (take (at + p - at) (drop at s)) (pad (length (take (at + p - at) (drop at s))) a)) where
      first_is : (z : Ordering) → o ≡ z → code_order s at p q a b ≡ ordering_then z (order_of (take q (drop (at + p) s)) (pad q b))
      first_is z h = whole ∙ ap (λ (y : Ordering). ordering_then y (order_of (take q (drop (at + p) s)) (pad q b))) (sym (e ∙ part at p a (omega arith)) ∙ h)

      pub order_less : o ≡ Less → Less ≡ code_order s at p q a b
      order_less h = sym (first_is Less h)

      pub order_more : o ≡ Greater → Greater ≡ code_order s at p q a b
      order_more h = sym (first_is Greater h)

      pub order_same : (r : Ordering) → o ≡ Equal → r ≡ order_of (take (at + p + q - (at + p)) (drop (at + p) s)) (pad (length (take (at + p + q - (at + p)) (drop (at + p) s))) b) → r ≡ code_order s at p q a b
      order_same r h f = f ∙ part (at + p) q b l ∙ sym (first_is Equal h)

    -- whether both are the same
    pairs : (o z : Ordering) → is_same (ordering_then o z) ≡ (is_same o && is_same z)
    pairs Less z = refl
    pairs Equal z = refl
    pairs Greater z = refl

    same_both : is_same (code_order s at p q a b) ≡ (is_same (order_of (take p (drop at s)) (pad p a)) && is_same (order_of (take q (drop (at + p) s)) (pad q b)))
    same_both = ap is_same whole ∙ pairs (order_of (take p (drop at s)) (pad p a)) (order_of (take q (drop (at + p) s)) (pad q b))

    -- a text that stands there, and blanks after it
    module _ (u : Bool) (eu : Tells (Stands s at a (length a)) u) (f : length a ≤ p) where
      pub has_not : u ≡ false → false ≡ is_same (code_order s at p q a b)
      has_not h = sym (same_both ∙ rw (unfilled s at p a (omega arith) f (λ k. eu.fails h k.0)))

      pub has_more : (v : Bool) → Tells (Blank s (at + length a) (at + p)) v → v ≡ false → false ≡ is_same (code_order s at p q a b)
      has_more v ev h = sym (same_both ∙ rw (unfilled s at p a (omega arith) f (λ k. ev.fails h k.1)))

      module _ (v : Bool) (ev : Tells (Blank s (at + length a) (at + p)) v) (hu : u ≡ true) (hv : v ≡ true) where
        first_same : is_same (code_order s at p q a b) ≡ is_same (order_of (take q (drop (at + p) s)) (pad q b))
        first_same = same_both ∙ rw (filled_is s at p a (omega arith) f (eu.holds hu) (ev.holds hv))

        pub has_one : length b ≤ q → q ≡ 0 → true ≡ is_same (code_order s at p q a b)
        unfolding pad order_of
        has_one g z = sym (first_same ∙ rw z)

        module _ (x : Bool) (ex : Tells (Stands s (at + p) b (length b)) x) (g : length b ≤ q) where
          pub has_not_second : x ≡ false → false ≡ is_same (code_order s at p q a b)
          has_not_second h = sym (first_same ∙ unfilled s (at + p) q b l g (λ k. ex.fails h k.0))

          pub has_second_lem : (y : Bool) → x ≡ true → Tells (Blank s (at + p + length b) (at + p + q)) y → y ≡ is_same (code_order s at p q a b)
          has_second_lem true h ey = sym (first_same ∙ filled_is s (at + p) q b l g (ex.holds h) (ey.holds refl))
          has_second_lem false h ey = sym (first_same ∙ unfilled s (at + p) q b l g (λ k. ey.fails refl k.1))

pub ruleset for_code_order = (rules, order_less, order_more, order_same)

pub ruleset for_has_code = (rules, has_not, has_more, has_one, has_not_second, has_second_lem)
