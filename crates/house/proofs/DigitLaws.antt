-- What each need of `eight_digits` and `all_digits` asks.
-- Assumes nothing.
use mathlib.Core.Path.{◌≡◌, refl, sym, ap, ◌∙◌}
use mathlib.Core.Bool.{Bool, true, false, ◌&&◌}
use mathlib.Core.List.{List, [], ◌∷◌}
use Prim.Native.Nat.{ℕ, zero, suc, ◌+◌, ◌*◌, ◌/◌, ◌≤◌, ◌<◌}
use native.Mathlib.Numerals.{add-one}
use native.Mathlib.Omega.{arith}
use borrow.Author.Rules.{rules}
use lib.ListN.{length, get_or, take, drop, take-append-drop, drop_of_length-le}
use lib.Seq.{drop-drop, drop-cons, take_all}
use Rattle.std.specs.List.{list_all}
use Rattle.std.specs.Simd.{first_chunks}
use Rattle.house.specs.Text.{Text, all, within, is_digit, digits}
use Rattle.house.proofs.Members.{all_append}
use Rattle.house.proofs.Suffix.{eight}

-- eight tests, from the left and from the right
pub together : (a b c d e f g h : Bool) → (a && b && c && d && e && f && g && h) ≡ (a && (b && (c && (d && (e && (f && (g && (h && true))))))))
together true true true true true true true true = refl
together true true true true true true true false = refl
together true true true true true true false h = refl
together true true true true true false g h = refl
together true true true true false f g h = refl
together true true true false e f g h = refl
together true true false d e f g h = refl
together true false c d e f g h = refl
together false b c d e f g h = refl

-- eight_digits: of eight bytes anywhere in a text, and of a text that has no more
pub eight_digits : (s : Text) (i : ℕ) → i + 8 ≤ length s
    → (within 48 57 (get_or s i 0) && within 48 57 (get_or s (i + 1) 0) && within 48 57 (get_or s (i + 2) 0) && within 48 57 (get_or s (i + 3) 0) && within 48 57 (get_or s (i + 4) 0) && within 48 57 (get_or s (i + 5) 0) && within 48 57 (get_or s (i + 6) 0) && within 48 57 (get_or s (i + 7) 0))
    ≡ digits (take 8 (drop i s))
unfolding digits is_digit
eight_digits s i h =
    rw (eight s i h)
    (together (within 48 57 (get_or s i 0)) (within 48 57 (get_or s (i + 1) 0)) (within 48 57 (get_or s (i + 2) 0)) (within 48 57 (get_or s (i + 3) 0)) (within 48 57 (get_or s (i + 4) 0)) (within 48 57 (get_or s (i + 5) 0)) (within 48 57 (get_or s (i + 6) 0)) (within 48 57 (get_or s (i + 7) 0)))

pub eight_alone : (s : Text) → length s ≡ 8
    → (is_digit (get_or s 0 0) && is_digit (get_or s 1 0) && is_digit (get_or s 2 0) && is_digit (get_or s 3 0) && is_digit (get_or s 4 0) && is_digit (get_or s 5 0) && is_digit (get_or s 6 0) && is_digit (get_or s 7 0))
    ≡ digits s
unfolding is_digit
eight_alone s h = eight_digits s 0 (omega arith) ∙ ap digits (take_all 8 s (omega arith))

pub ruleset for_eight_digits = (rules, eight_alone)

-- all_digits
split : (u : Text) (m : ℕ) → digits u ≡ (digits (take m u) && digits (drop m u))
unfolding digits
split u m = ap digits (sym (take-append-drop m u)) ∙ all_append is_digit (take m u) (drop m u)

in_eights : (k : ℕ) (t : Text) → digits t ≡ (all digits (first_chunks 8 k t) && digits (drop (k * 8) t))
in_eights zero t = refl
in_eights (suc k) t =
    split t 8
    ∙ rw (in_eights k (drop 8 t), drop-drop (k * 8) 8 t, next) (go (digits (take 8 t)) (all digits (first_chunks 8 k (drop 8 t))) (digits (drop (suc k * 8) t)))
  where
    next : 8 + k * 8 ≡ suc k * 8
    next = omega arith

    go : (u v w : Bool) → (u && (v && w)) ≡ ((u && v) && w)
    go true v w = refl
    go false v w = refl

module _ (t : Text) (es : List Text) (r : Text) where
  pub eights_start : es ≡ first_chunks 8 (length t / 8) t → r ≡ drop (length t / 8 * 8) t → digits t ≡ (all digits (drop 0 es) && digits r)
  eights_start e f = rw (e, f) (in_eights (length t / 8) t)

  module _ (i : ℕ) (x : Bool) (inv : x ≡ (all digits (drop i es) && digits r)) where
    module _ (h : i < length es) (q : Bool) (e : q ≡ digits (get_or es i [])) where
      here : x ≡ ((q && all digits (drop (i + 1) es)) && digits r)
      here = rw (inv, e, add-one, drop-cons es i [])

      pub eights_on : q ≡ true → x ≡ (all digits (drop (i + 1) es) && digits r)
      eights_on z = here ∙ rw z

      pub eights_not : q ≡ false → false ≡ x
      eights_not z = sym (here ∙ rw z)

    pub eights_end : length es ≤ i → (p : Bool) → p ≡ list_all is_digit r → p ≡ x
    unfolding digits
    eights_end h p e = sym (inv ∙ rw (drop_of_length-le es h) (each r) ∙ sym e)
      where
        each : (t : Text) → all is_digit t ≡ list_all is_digit t
        each [] = refl
        each (b ∷ t) = ap (λ (u : Bool). is_digit b && u) (each t)

pub ruleset for_all_digits = (rules, eights_start, eights_on, eights_not, eights_end)
