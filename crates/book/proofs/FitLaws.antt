-- Texts that fit the widths of their codes.
-- Assumes nothing.
use mathlib.Core.Path.{◌≡◌, refl, sym, ap}
use mathlib.Core.Bool.{Bool, true, false, ◌&&◌}
use mathlib.Core.List.{[], ◌∷◌, ◌++◌}
use Prim.Native.Nat.{ℕ, zero, suc, ◌+◌, ◌≤◌}
use native.Mathlib.Nat.{not-suc-le-zero, le_of_suc-le-suc}
use native.Mathlib.Omega.{arith}
use borrow.Author.Tests.{eq-eqb, ne_eqb, leb-true, leb-false}
use lib.Dec.{eqb, leb}
use lib.ListN.{length, length-append}
use Rattle.house.specs.Text.{Text, pad}
use Rattle.house.proofs.Small.{both}
use Rattle.book.specs.Book.{first_width, second_width, code_width, filled, code_text}
use Rattle.book.specs.Inside.{fits, code_padded}
use Rattle.book.proofs.WidthLaws.{code_parts}

-- texts that fit, padded
filled_pad : (w : ℕ) (t : Text) → length t ≤ w → filled w t ≡ pad w t
unfolding pad
filled_pad zero [] l = refl
filled_pad zero (b ∷ t) l = absurd (not-suc-le-zero l)
filled_pad (suc w) [] l = ap (λ (t : Text). 32 ∷ t) (filled_pad w [] (omega arith))
filled_pad (suc w) (b ∷ t) l = ap (λ (t : Text). b ∷ t) (filled_pad w t (le_of_suc-le-suc l))

pub fit_says : (k : ℕ) (a b : Text) → fits k a b ≡ true → (length a ≤ first_width k) × (length b ≤ second_width k)
unfolding fits
fit_says k a b h =
    let p = both (leb (length a) (first_width k)) (leb (length b) (second_width k)) h in
    (leb-true _ _ p.0, leb-true _ _ p.1)

pub code_text_lem : (k : ℕ) (a b : Text) → fits k a b ≡ true → code_text k a b ≡ code_padded k a b
unfolding code_text code_padded
code_text_lem k a b h = rw (filled_pad (first_width k) a (fit_says k a b h).0, filled_pad (second_width k) b (fit_says k a b h).1)

-- a text with blanks after it is no shorter than its width, and than the text
filled_long : (w : ℕ) (t : Text) → (w ≤ length (filled w t)) × (length t ≤ length (filled w t))
filled_long zero t = (omega arith, omega arith)
filled_long (suc w) [] = (omega (arith, (filled_long w []).0), omega arith)
filled_long (suc w) (b ∷ t) = (omega (arith, (filled_long w t).0), omega (arith, (filled_long w t).1))

-- a text with blanks after it: as long as its width, unless it is longer
pub filled_fits : (w : ℕ) (t : Text) → length t ≤ w → length (filled w t) ≡ w
filled_fits zero [] h = refl
filled_fits zero (b ∷ t) h = absurd (omega arith)
filled_fits (suc w) [] h = ap suc (filled_fits w [] (omega arith))
filled_fits (suc w) (b ∷ t) h = ap suc (filled_fits w t (omega arith))

-- two texts fit exactly if the code that they make is as long as a code of the kind
pub fits_is : (k : ℕ) (a b : Text) → fits k a b ≡ eqb (length (code_text k a b)) (code_width k)
unfolding fits code_text
fits_is k a b = go (leb (length a) (first_width k)) (leb (length b) (second_width k)) refl refl
  where
    long : length (filled (first_width k) a ++ filled (second_width k) b) ≡ length (filled (first_width k) a) + length (filled (second_width k) b)
    long = length-append (filled (first_width k) a) (filled (second_width k) b)

    go : (u v : Bool) → leb (length a) (first_width k) ≡ u → leb (length b) (second_width k) ≡ v → (u && v) ≡ eqb (length (filled (first_width k) a ++ filled (second_width k) b)) (code_width k)
    go true true p q =
        let m : length (filled (first_width k) a) ≡ first_width k = filled_fits (first_width k) a (leb-true (length a) (first_width k) p) in
        let n : length (filled (second_width k) b) ≡ second_width k = filled_fits (second_width k) b (leb-true (length b) (second_width k) q) in
        sym (eq-eqb (length (filled (first_width k) a ++ filled (second_width k) b)) (code_width k) (omega (arith, long, code_parts k)))
    go true false p q =
        sym (ne_eqb (length (filled (first_width k) a ++ filled (second_width k) b)) (code_width k) (λ z. omega (arith, long, code_parts k, (filled_long (first_width k) a).0, (filled_long (second_width k) b).1, leb-false (length b) (second_width k) q)))
    go false v p q =
        sym (ne_eqb (length (filled (first_width k) a ++ filled (second_width k) b)) (code_width k) (λ z. omega (arith, long, code_parts k, (filled_long (first_width k) a).1, (filled_long (second_width k) b).0, leb-false (length a) (first_width k) p)))
