-- Bytes at a place, one by one: what each need of `blanks` and `stands_at` asks, and a text with blanks after it.
-- Assumes nothing.
use mathlib.Core.Path.{◌≡◌, refl, sym, ap, ◌∙◌}
use mathlib.Core.Bool.{Bool, true, false}
use mathlib.Core.List.{[], ◌∷◌}
use Prim.Native.Nat.{ℕ, zero, suc, ◌+◌, ◌-◌, ◌≤◌, ◌<◌}
use native.Mathlib.Omega.{arith}
use borrow.Author.Tests.{eq-eqb, eqb-true}
use borrow.Author.Rules.{rules}
use lib.Dec.{eqb}
use lib.ListN.{length, get_or, take, drop, length-drop}
use lib.Seq.{length-take-le, get_or-take, get_or-drop}
use Rattle.house.specs.Text.{Text, all, is_same, order_of, same, pad}
use Rattle.house.proofs.Small.{clash, both, Three, lt, eq, gt, three}
use Rattle.house.proofs.OrderLaws.{length_pad, get_or_pad, byte_in, byte_past}
use Rattle.house.proofs.Decisions.{is_same_lem, not_same}
use Rattle.book.specs.Inside.{is_byte, Tells, Blank, FourSame, Stands}

-- the bytes of a part, one by one
byte_of : (s : Text) (i n k : ℕ) → k < n → get_or (take n (drop i s)) k 0 ≡ get_or s (i + k) 0
byte_of s i n k h = get_or-take n (drop i s) k 0 h ∙ get_or-drop i s k 0

all_at : (v : ℕ) (t : Text) → all (is_byte v) t ≡ true → (k : ℕ) → k < length t → get_or t k 0 ≡ v
all_at v [] h k l = absurd (omega arith)
all_at v (b ∷ t) h zero l = eqb-true b v (both (eqb b v) (all (is_byte v) t) h).0
all_at v (b ∷ t) h (suc k) l = all_at v t (both (eqb b v) (all (is_byte v) t) h).1 k (omega arith)

at_all : (v : ℕ) (t : Text) → ((k : ℕ) → k < length t → get_or t k 0 ≡ v) → all (is_byte v) t ≡ true
at_all v [] f = refl
at_all v (b ∷ t) f = rw (eq-eqb b v (f 0 (omega arith))) (at_all v t (λ k l. f (suc k) (omega arith)))

-- blanks
pub blank_start : (s : Text) (at : ℕ) → Blank s at at
blank_start s at j l m = absurd (omega arith)

module _ (s : Text) (at j : ℕ) (r : Bool) (e : r ≡ all (is_byte 32) (take 8 (drop j s))) (z : j + 8 ≤ length s) where
  eight_long : length (take 8 (drop j s)) ≡ 8
  eight_long = length-take-le 8 (drop j s) (omega (arith, length-drop j s))

  pub eight_on : (i : ℕ) → Blank s at i → j ≤ i → r ≡ true → Blank s at (j + 8)
  eight_on i inv g h m k o = go (three m i)
    where
      past : i ≤ m → get_or s m 0 ≡ 32
      past p =
          let d : j + (m - j) ≡ m = omega arith in
          let u : m - j < length (take 8 (drop j s)) = omega (arith, eight_long) in
          ap (λ (x : ℕ). get_or s x 0) (sym d) ∙ sym (byte_of s j 8 (m - j) (omega arith)) ∙ all_at 32 (take 8 (drop j s)) (sym e ∙ h) (m - j) u

      go : Three m i → get_or s m 0 ≡ 32
      go (lt p) = inv m k p
      go (eq p) = past (omega arith)
      go (gt p) = past (omega arith)

  pub eight_not : (end : ℕ) → at ≤ j → j + 8 ≤ end → r ≡ false → Tells (Blank s at end) false
  eight_not end g l h =
      record {
        holds = λ u. clash (cc u);
        fails = λ u f. clash (cc (e, h, at_all 32 (take 8 (drop j s)) (λ k o. byte_of s j 8 k (omega (arith, eight_long)) ∙ f (j + k) (omega arith) (omega (arith, eight_long)))));
      }

  pub eight_last : (end i : ℕ) → Blank s at i → j ≤ i → at ≤ j → j + 8 ≡ end → Tells (Blank s at end) r
  eight_last end i inv g l h =
      record {
        holds = λ u m k o. eight_on i inv g u m k (omega arith);
        fails = λ u. (eight_not end l (omega arith) u).fails refl;
      }

pub ruleset for_blanks = (rules, blank_start, eight_on, eight_not, eight_last)

-- a part of a text is another text, padded
equal : (x y : Text) → length x ≡ length y → ((i : ℕ) → i < length x → get_or x i 0 ≡ get_or y i 0) → x ≡ y
equal [] [] e f = refl
equal [] (b ∷ y) e f = absurd (omega arith)
equal (a ∷ x) [] e f = absurd (omega arith)
equal (a ∷ x) (b ∷ y) e f = ap (λ (c : ℕ). c ∷ x) (f 0 (omega arith)) ∙ ap (λ (t : Text). b ∷ t) (equal x y (omega arith) (λ i l. f (suc i) (omega arith)))

-- stands_at
pub stands_start : (s : Text) (at : ℕ) (t : Text) → Stands s at t 0
stands_start s at t j l = absurd (omega arith)

module _ (s : Text) (at : ℕ) (t : Text) (j : ℕ) (r : Bool) (e : Tells (FourSame s (at + j) t j) r) where
  pub four_on : (i : ℕ) → Stands s at t i → j ≤ i → r ≡ true → Stands s at t (j + 4)
  four_on i inv g h m o = go (three m i)
    where
      past : i ≤ m → get_or s (at + m) 0 ≡ get_or t m 0
      past p =
          let d : j + (m - j) ≡ m = omega arith in
          let c : at + j + (m - j) ≡ at + m = omega arith in
          ap (λ (x : ℕ). get_or s x 0) (sym c) ∙ e.holds h (m - j) (omega arith) ∙ ap (λ (x : ℕ). get_or t x 0) d

      go : Three m i → get_or s (at + m) 0 ≡ get_or t m 0
      go (lt p) = inv m p
      go (eq p) = past (omega arith)
      go (gt p) = past (omega arith)

  four_fails : j + 4 ≤ length t → r ≡ false → Stands s at t (length t) → ⊥
  four_fails l h f = e.fails h (λ k o. let c : at + j + k ≡ at + (j + k) = omega arith in ap (λ (x : ℕ). get_or s x 0) c ∙ f (j + k) (omega arith))

  pub four_not : j + 4 ≤ length t → r ≡ false → Tells (Stands s at t (length t)) false
  four_not l h = record { holds = λ u. clash (cc u); fails = λ u f. four_fails l h f }

  pub four_last : (i : ℕ) → Stands s at t i → j ≤ i → j + 4 ≡ length t → Tells (Stands s at t (length t)) r
  four_last i inv g l = record { holds = λ u m o. four_on i inv g u m (omega arith); fails = λ u f. four_fails (omega arith) u f }

pub ruleset for_stands_at = (rules, stands_start, four_on, four_not, four_last)

module _ (s : Text) (at w : ℕ) (t : Text) (l : at + w ≤ length s) (f : length t ≤ w) where
  part_length : length (take w (drop at s)) ≡ w
  part_length = length-take-le w (drop at s) (omega (arith, length-drop at s))

  pub filled_is : Stands s at t (length t) → Blank s (at + length t) (at + w) → is_same (order_of (take w (drop at s)) (pad w t)) ≡ true
  unfolding same
  filled_is g h = is_same_lem (take w (drop at s)) (pad w t) (equal (take w (drop at s)) (pad w t) (part_length ∙ sym (length_pad w t)) each)
    where
      there : (i : ℕ) → i < w → get_or s (at + i) 0 ≡ get_or t i 32
      there i m = go (three i (length t))
        where
          go : Three i (length t) → get_or s (at + i) 0 ≡ get_or t i 32
          go (lt k) = g i k ∙ byte_in t i k
          go (eq k) = h (at + i) (omega arith) (omega arith) ∙ byte_past t i (omega arith)
          go (gt k) = h (at + i) (omega arith) (omega arith) ∙ byte_past t i (omega arith)

      each : (i : ℕ) → i < length (take w (drop at s)) → get_or (take w (drop at s)) i 0 ≡ get_or (pad w t) i 0
      each i m =
          let k : i < w = omega (arith, part_length) in
          byte_of s at w i k ∙ there i k ∙ sym (get_or_pad w t i k)

  pub unfilled : (Stands s at t (length t) × Blank s (at + length t) (at + w) → ⊥) → is_same (order_of (take w (drop at s)) (pad w t)) ≡ false
  unfolding same
  unfilled n = not_same (take w (drop at s)) (pad w t) (λ e. n (text e, rest e))
    where
      byte : take w (drop at s) ≡ pad w t → (i : ℕ) → i < w → get_or s (at + i) 0 ≡ get_or t i 32
      byte e i m = sym (byte_of s at w i m) ∙ ap (λ (x : Text). get_or x i 0) e ∙ get_or_pad w t i m

      text : take w (drop at s) ≡ pad w t → Stands s at t (length t)
      text e j m = byte e j (omega arith) ∙ sym (byte_in t j m)

      rest : take w (drop at s) ≡ pad w t → Blank s (at + length t) (at + w)
      rest e j m o =
          let d : at + (j - at) ≡ j = omega arith in
          ap (λ (x : ℕ). get_or s x 0) (sym d) ∙ byte e (j - at) (omega arith) ∙ sym (byte_past t (j - at) (omega arith))
