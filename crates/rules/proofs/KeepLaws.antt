-- Findings put to the area one by one: what the area holds once all are put.
-- Assumes nothing.
use mathlib.Core.Path.{◌≡◌, refl, sym, ap, ◌∙◌}
use mathlib.Core.Bool.{Bool, true, false}
use mathlib.Core.List.{List, [], ◌∷◌, ◌++◌, append_assoc}
use Prim.Native.Nat.{ℕ, suc, ◌+◌, ◌-◌, ◌*◌, ◌/◌, ◌≤◌, ◌<◌}
use native.Mathlib.Nat.{zero-add, add-zero}
use native.Mathlib.Omega.{arith}
use borrow.Author.Tests.{lt-ltb, le-ltb, ltb-true, ltb-false}
use lib.Dec.{ltb}
use lib.ListN.{length, take, drop, length-set, length-append, take-append-drop}
use lib.Seq.{take-nil, sets-eq, take_at, drop_at, drop-drop, length-take-le}
use Rattle.house.specs.Text.{Text, joined}
use Rattle.rules_definitions.specs.Findings.{Finding, finding_bytes, area_after}
use Rattle.rules.specs.Inside.{Kept, kept, put6, put, keep}

-- one list after another
pub keep_append : (xs ys : List Finding) (k : Kept) → keep (xs ++ ys) k ≡ keep ys (keep xs k)
unfolding keep
keep_append [] ys k = refl
keep_append (x ∷ xs) ys k = keep_append xs ys (put x k)

-- a finding in its six bytes
put6_paste : (s : Text) (at : ℕ) (x : Finding) → at + 6 ≤ length s → put6 s at x ≡ take at s ++ finding_bytes x ++ drop (at + 6) s
unfolding put6 finding_bytes
put6_paste s at x h =
    let e1 : at + 1 ≡ suc at = omega arith in
    let e2 : at + 2 ≡ suc (suc at) = omega arith in
    let e3 : at + 3 ≡ suc (suc (suc at)) = omega arith in
    let e4 : at + 4 ≡ suc (suc (suc (suc at))) = omega arith in
    let e5 : at + 5 ≡ suc (suc (suc (suc (suc at)))) = omega arith in
    rw (e1, e2, e3, e4, e5) (sets-eq (finding_bytes x) s at h)

put6_length : (s : Text) (at : ℕ) (x : Finding) → length (put6 s at x) ≡ length s
unfolding put6
put6_length s at x = simp length-set

bytes_six : (x : Finding) → length (finding_bytes x) ≡ 6
unfolding finding_bytes
bytes_six x = refl

-- past the last slot nothing is written
full : (xs : List Finding) (k : ℕ) (a : Text) → length a / 6 ≤ k → keep xs (kept k a) ≡ kept (k + length xs) a
unfolding keep put
full [] k a h = rw add-zero
full (x ∷ xs) k a h =
    let e : k + 1 + length xs ≡ k + suc (length xs) = omega arith in
    rw (le-ltb k (length a / 6) h) (full xs (k + 1) a (omega arith) ∙ rw e)

-- the area with these findings from slot k on
stored : ℕ → List Finding → Text → Text
stored k xs a =
    take (6 * k) a ++ (joined finding_bytes (take (length a / 6 - k) xs) ++ drop (6 * k + length (joined finding_bytes (take (length a / 6 - k) xs))) a)

slot_fits : (k : ℕ) (a : Text) → k < length a / 6 → 6 * k + 6 ≤ length a
slot_fits k a h = omega arith

module _ (k : ℕ) (x : Finding) (xs : List Finding) (a : Text) (h : k < length a / 6) where
  cut : put6 a (6 * k) x ≡ take (6 * k) a ++ finding_bytes x ++ drop (6 * k + 6) a
  cut = put6_paste a (6 * k) x (slot_fits k a h)

  head_length : length (take (6 * k) a ++ finding_bytes x) ≡ 6 * (k + 1)
  head_length =
      rw (length-append (take (6 * k) a) (finding_bytes x), bytes_six x, length-take-le (6 * k) a (omega (arith, slot_fits k a h))) (omega arith)

  head_of_lem : take (6 * (k + 1)) (put6 a (6 * k) x) ≡ take (6 * k) a ++ finding_bytes x
  head_of_lem = rw cut (take_at (take (6 * k) a ++ finding_bytes x) (drop (6 * k + 6) a) (6 * (k + 1)) head_length)

  tail_of : (j : ℕ) → drop (6 * (k + 1) + j) (put6 a (6 * k) x) ≡ drop (6 * k + (6 + j)) a
  tail_of j =
      let e : 6 * k + 6 + j ≡ 6 * k + (6 + j) = omega arith in
      sym (drop-drop j (6 * (k + 1)) (put6 a (6 * k) x))
      ∙ ap (λ (s : Text). drop j s)
      (ap (λ (s : Text). drop (6 * (k + 1)) s) cut ∙ drop_at (take (6 * k) a ++ finding_bytes x) (drop (6 * k + 6) a) (6 * (k + 1)) head_length)
      ∙ drop-drop j (6 * k + 6) a
      ∙ ap (λ (n : ℕ). drop n a) e

  stored_step : stored (k + 1) xs (put6 a (6 * k) x) ≡ stored k (x ∷ xs) a
  unfolding stored
  stored_step =
      let m : length a / 6 - k ≡ suc (length a / 6 - (k + 1)) = omega arith in
      let J : Text = joined finding_bytes (take (length a / 6 - (k + 1)) xs) in
      let n : length (finding_bytes x ++ J) ≡ 6 + length J = length-append (finding_bytes x) J ∙ rw (bytes_six x) in
      rw (put6_length a (6 * k) x, head_of_lem, tail_of (length J), m, n, append_assoc, append_assoc)

stored_nil : (k : ℕ) (a : Text) → stored k [] a ≡ a
unfolding stored
stored_nil k a = rw (take-nil, add-zero) (take-append-drop (6 * k) a)

stored_full : (k : ℕ) (xs : List Finding) (a : Text) → length a / 6 ≤ k → stored k xs a ≡ a
unfolding stored
stored_full k xs a h = let e : length a / 6 - k ≡ 0 = omega arith in rw (e, add-zero) (take-append-drop (6 * k) a)

keep_one : (x : Finding) (xs : List Finding) (k : ℕ) (a : Text) → k < length a / 6 → keep (x ∷ xs) (kept k a) ≡ keep xs (kept (k + 1) (put6 a (6 * k) x))
unfolding keep put
keep_one x xs k a h = rw (lt-ltb k (length a / 6) h)

keep_none : (k : Kept) → keep [] k ≡ k
unfolding keep
keep_none k = refl

keep_stored : (xs : List Finding) (k : ℕ) (a : Text) → keep xs (kept k a) ≡ kept (k + length xs) (stored k xs a)
keep_stored [] k a = rw (keep_none, add-zero, stored_nil)
keep_stored (x ∷ xs) k a = go (ltb k (length a / 6)) refl (keep_stored xs (k + 1) (put6 a (6 * k) x))
  where
    go : (t : Bool) → ltb k (length a / 6) ≡ t → keep xs (kept (k + 1) (put6 a (6 * k) x)) ≡ kept (k + 1 + length xs) (stored (k + 1) xs (put6 a (6 * k) x))
        → keep (x ∷ xs) (kept k a) ≡ kept (k + suc (length xs)) (stored k (x ∷ xs) a)
    go true e ih =
        let n : k + 1 + length xs ≡ k + suc (length xs) = omega arith in
        keep_one x xs k a (ltb-true k (length a / 6) e) ∙ ih ∙ rw (n, stored_step k x xs a (ltb-true k (length a / 6) e))
    go false e ih = full (x ∷ xs) k a (ltb-false k (length a / 6) e) ∙ rw (stored_full k (x ∷ xs) a (ltb-false k (length a / 6) e))

-- all of them, from an area as lent: the count and the area of the definition
pub keep_all : (xs : List Finding) (a : Text) → keep xs (kept 0 a) ≡ kept (length xs) (area_after a xs)
unfolding area_after stored
keep_all xs a =
    let e : length a / 6 - 0 ≡ length a / 6 = omega arith in
    keep_stored xs 0 a ∙ rw (zero-add, e, zero-add)
