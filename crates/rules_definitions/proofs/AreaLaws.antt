-- The findings area, byte by byte.
-- Assumes nothing.
use Prim.Native.Nat.{ℕ, zero, suc, ◌+◌, ◌-◌, ◌*◌, ◌/◌, ◌%◌, ◌≤◌, ◌<◌, min}
use native.Mathlib.Nat.{div-mul-le_self, div-add-mod'}
use native.Mathlib.Omega.{arith}
use mathlib.Core.Path.{◌≡◌, refl, sym, ap, ◌∙◌}
use mathlib.Core.List.{List, [], ◌∷◌, ◌++◌}
use lib.ListN.{length, get_or, take, drop, length-append, length-take, length-drop, get_or-append}
use lib.Seq.{get_or-append-add, get_or-take, get_or-drop, ext_get_or}
use Rattle.house.specs.Text.{Text, joined}
use Rattle.house.proofs.Small.{Three, lt, eq, gt, three}
use Rattle.rules_definitions.specs.Findings.{Finding, finding_bytes, area_after}
use Rattle.rules_definitions.specs.Claims.{no_finding, AreaKept, OneArea}

kept_length : (xs : List Finding) → length (joined finding_bytes xs) ≡ length xs * 6
unfolding finding_bytes
kept_length [] = refl
kept_length (x ∷ xs) = omega (arith, kept_length xs)

kept_byte : (xs : List Finding) (i j : ℕ) → i < length xs → j < 6 → get_or (joined finding_bytes xs) (i * 6 + j) 0 ≡ get_or (finding_bytes (get_or xs i no_finding)) j 0
unfolding finding_bytes
kept_byte [] i j h k = absurd (omega arith)
kept_byte (x ∷ xs) zero j h k =
    let e : 0 * 6 + j ≡ j = omega arith in
    ap (λ (n : ℕ). get_or (finding_bytes x ++ joined finding_bytes xs) n 0) e ∙ get_or-append (finding_bytes x) (joined finding_bytes xs) 0 j k
kept_byte (x ∷ xs) (suc i) j h k =
    let e : suc i * 6 + j ≡ 6 + (i * 6 + j) = omega arith in
    ap (λ (n : ℕ). get_or (finding_bytes x ++ joined finding_bytes xs) n 0) e
    ∙ get_or-append-add (finding_bytes x) (joined finding_bytes xs) (i * 6 + j) 0
    ∙ kept_byte xs i j (omega arith) k

-- a text laid over the front of an area
module _ (front area : Text) (fits : length front ≤ length area) where
  laid_length : length (front ++ drop (length front) area) ≡ length area
  laid_length = simp (length-append, length-drop) (omega arith)

  laid_past : (k : ℕ) → length front ≤ k → get_or (front ++ drop (length front) area) k 0 ≡ get_or area k 0
  laid_past k h =
      let e : k ≡ length front + (k - length front) = omega arith in
      ap (λ (n : ℕ). get_or (front ++ drop (length front) area) n 0) e
      ∙ get_or-append-add front (drop (length front) area) (k - length front) 0
      ∙ get_or-drop (length front) area (k - length front) 0
      ∙ ap (λ (n : ℕ). get_or area n 0) (sym e)

module _ (area : Text) (xs : List Finding) where
  kept : Text
  kept = joined finding_bytes (take (length area / 6) xs)

  how_long : length kept ≡ min (length area / 6) (length xs) * 6
  unfolding kept
  how_long = kept_length (take (length area / 6) xs) ∙ ap (λ (n : ℕ). n * 6) (length-take (length area / 6) xs)

  fits : length kept ≤ length area
  fits = omega (arith, how_long, div-mul-le_self (length area) 6)

-- Finding i stands in its six bytes where it is there and fits whole, and every other byte is as lent.
pub area_kept : AreaKept
unfolding area_after kept
area_kept area xs =
    record {
      same_length = laid_length (kept area xs) area (fits area xs);
      kept =
          λ i j h r k.
          let q : i < length area / 6 = room i r in
          let n : i < length (take (length area / 6) xs) = simp length-take (omega arith) in
          let b : i * 6 + j < length (kept area xs) = omega (arith, kept_length (take (length area / 6) xs)) in
          get_or-append (kept area xs) (drop (length (kept area xs)) area) 0 (i * 6 + j) b
          ∙ kept_byte (take (length area / 6) xs) i j n k
          ∙ ap (λ (y : Finding). get_or (finding_bytes y) j 0) (get_or-take (length area / 6) xs i no_finding q);
      past_list = λ k h. laid_past (kept area xs) area (fits area xs) k (omega (arith, how_long area xs));
      past_room = λ k h. laid_past (kept area xs) area (fits area xs) k (omega (arith, how_long area xs));
    }
  where
    room : (i : ℕ) → i * 6 + 6 ≤ length area → i < length area / 6
    room i r = omega arith

-- Every byte of the area is said.
pub one_area : OneArea
one_area area xs a b p q = ext_get_or 0 a b (p.same_length ∙ sym q.same_length) (λ k h. byte k (three (k / 6) (length xs)) (three (k / 6) (length area / 6)))
  where
    split : (k : ℕ) → k ≡ k / 6 * 6 + k % 6
    split k = sym (div-add-mod' k 6)

    low : (k : ℕ) → k / 6 < length xs → k / 6 < length area / 6 → get_or a k 0 ≡ get_or b k 0
    low k h g =
        let r : k / 6 * 6 + 6 ≤ length area = omega (arith, div-mul-le_self (length area) 6) in
        let j : k % 6 < 6 = omega arith in
        ap (λ (n : ℕ). get_or a n 0) (split k)
        ∙ p.kept (k / 6) (k % 6) h r j
        ∙ sym (q.kept (k / 6) (k % 6) h r j)
        ∙ ap (λ (n : ℕ). get_or b n 0) (sym (split k))

    list_end : (k : ℕ) → length xs ≤ k / 6 → get_or a k 0 ≡ get_or b k 0
    list_end k h =
        let g : length xs * 6 ≤ k = omega (arith, div-mul-le_self k 6) in
        p.past_list k g ∙ sym (q.past_list k g)

    room_end : (k : ℕ) → length area / 6 ≤ k / 6 → get_or a k 0 ≡ get_or b k 0
    room_end k h =
        let g : length area / 6 * 6 ≤ k = omega (arith, div-mul-le_self k 6) in
        p.past_room k g ∙ sym (q.past_room k g)

    byte : (k : ℕ) → Three (k / 6) (length xs) → Three (k / 6) (length area / 6) → get_or a k 0 ≡ get_or b k 0
    byte k (lt h) (lt g) = low k h g
    byte k (lt h) (eq g) = room_end k (omega arith)
    byte k (lt h) (gt g) = room_end k (omega arith)
    byte k (eq h) g = list_end k (omega arith)
    byte k (gt h) g = list_end k (omega arith)

-- Findings put over no more findings leave what they leave over the area as lent.
pub area_again : (area : Text) (xs ys : List Finding) → length xs ≤ length ys → area_after (area_after area xs) ys ≡ area_after area ys
area_again area xs ys h =
    let b = area_kept area xs in
    let c = area_kept (area_after area xs) ys in
    let same : length (area_after area xs) ≡ length area = b.same_length in
    one_area area ys (area_after (area_after area xs) ys) (area_after area ys)
    (record {
      same_length = c.same_length ∙ same;
      kept = λ i j l r k. c.kept i j l (omega arith) k;
      past_list = λ k l. c.past_list k l ∙ b.past_list k (omega arith);
      past_room = λ k l. c.past_room k (rw same l) ∙ b.past_room k l;
    })
    (area_kept area ys)
