-- An area as slots: how many there are, which bytes each has, and what stands once one is written over.
-- Assumes nothing.
use mathlib.Core.Path.{◌≡◌, refl, sym, ap, ◌∙◌}
use mathlib.Core.List.{[], ◌++◌, append_assoc}
use Prim.Native.Nat.{ℕ, zero, suc, ◌+◌, ◌*◌, ◌-◌, ◌/◌, ◌≤◌, ◌<◌}
use native.Mathlib.Nat.{not-suc-le-zero, le_of_suc-le-suc, add_assoc, add-sub_cancel_left}
use native.Mathlib.Omega.{arith}
use borrow.Author.Rules.{rules}
use lib.ListN.{length, take, drop, get_or, set, length-drop}
use lib.Seq.{paste, length-take-le, take_at, drop_at, take-add, drop-drop, length-paste, take_all}
use Rattle.house.specs.Text.{Text}
use Rattle.ledger.specs.Ledger.{slots_in, chop, slots}

pub length_chop : (n : ℕ) (s : Text) → length (chop n s) ≡ n
unfolding chop
length_chop zero s = refl
length_chop (suc n) s = ap suc (length_chop n (drop 38 s))

pub length_slots : (s : Text) → length (slots s) ≡ length s / 38
unfolding slots slots_in
length_slots s = length_chop (length s / 38) s

get_or_chop : (n i : ℕ) (s : Text) → i < n → get_or (chop n s) i [] ≡ take 38 (drop (i * 38) s)
unfolding chop
get_or_chop zero i s h = absurd (not-suc-le-zero h)
get_or_chop (suc n) zero s h = refl
get_or_chop (suc n) (suc i) s h =
    let e : 38 + i * 38 ≡ suc i * 38 = omega arith in
    get_or_chop n i (drop 38 s) (le_of_suc-le-suc h) ∙ rw (drop-drop, e)

-- slot i has the bytes from i * 38 on
module _ (s : Text) (i : ℕ) (h : i < length s / 38) where
  pub slot_at : get_or (slots s) i [] ≡ take 38 (drop (i * 38) s)
  unfolding slots slots_in
  slot_at = get_or_chop (length s / 38) i s h

  pub slot_fits : i * 38 + 38 ≤ length s
  slot_fits = omega arith

  pub slot_size : length (get_or (slots s) i []) ≡ 38
  slot_size = ap length slot_at ∙ length-take-le 38 (drop (i * 38) s) (omega (arith, length-drop (i * 38) s, slot_fits))

  pub slot_part : take (i * 38 + 38 - i * 38) (drop (i * 38) s) ≡ get_or (slots s) i []
  slot_part = rw add-sub_cancel_left (sym slot_at)

  pub slot_part_size : length (take (i * 38 + 38 - i * 38) (drop (i * 38) s)) ≡ 38
  slot_part_size = ap length slot_part ∙ slot_size

pub ruleset for_slot = (rules, slot_fits, slot_part, slot_part_size)

-- a slot written over
paste_shift : (s t : Text) (q : ℕ) → paste s (38 + q) t 38 ≡ take 38 s ++ paste (drop 38 s) q t 38
paste_shift s t q = simp (take-add 38 q s, append_assoc, drop-drop, add_assoc)

chop_paste : (n i : ℕ) (s t : Text) → i < n → n * 38 ≤ length s → length t ≡ 38 → chop n (paste s (i * 38) t 38) ≡ set (chop n s) i t
unfolding chop
chop_paste zero i s t h k e = absurd (not-suc-le-zero h)
chop_paste (suc n) zero s t h k e =
    let w : take 38 t ≡ t = take_all 38 t (omega arith) in
    rw (w, take_at t (drop 38 s) 38 e, drop_at t (drop 38 s) 38 e)
chop_paste (suc n) (suc i) s t h k e =
    let m : suc i * 38 ≡ 38 + i * 38 = omega arith in
    let f : length (take 38 s) ≡ 38 = length-take-le 38 s (omega arith) in
    let p : paste s (suc i * 38) t 38 ≡ take 38 s ++ paste (drop 38 s) (i * 38) t 38 = rw m (paste_shift s t (i * 38)) in
    let r : chop n (paste (drop 38 s) (i * 38) t 38) ≡ set (chop n (drop 38 s)) i t = chop_paste n i (drop 38 s) t (le_of_suc-le-suc h) (omega (arith, length-drop 38 s)) e in
    rw (p, take_at (take 38 s) (paste (drop 38 s) (i * 38) t 38) 38 f, drop_at (take 38 s) (paste (drop 38 s) (i * 38) t 38) 38 f, r)

pub slots_paste : (s t : Text) (i : ℕ) → i < length s / 38 → length t ≡ 38 → slots (paste s (i * 38) t 38) ≡ set (slots s) i t
unfolding slots slots_in
slots_paste s t i h e =
    let n : length (paste s (i * 38) t 38) ≡ length s = length-paste s (i * 38) t 38 (omega arith) (omega arith) in
    rw n (chop_paste (length s / 38) i s t h (omega arith) e)
