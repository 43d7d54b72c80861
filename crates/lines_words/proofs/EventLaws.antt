-- Two chart records have one event key exactly if their four fields are the same without the blanks at their ends: what was trimmed can be padded
-- and is still told apart.
-- Assumes nothing.
use mathlib.Core.Path.{◌≡◌, refl, sym, ap, ◌∙◌}
use mathlib.Core.Bool.{Bool, true, false, cond, ◌&&◌}
use mathlib.Core.List.{[], ◌∷◌, ◌++◌}
use Prim.Native.Nat.{ℕ, zero, suc, ◌+◌, ◌≤◌}
use native.Mathlib.Nat.{not-suc-le-zero, le_of_suc-le-suc, min-le_left}
use native.Mathlib.Omega.{arith}
use lib.Dec.{eqb}
use lib.ListN.{length, take, drop, length-take}
use Rattle.house.specs.Text.{Text, order_of, is_same, same, is_blank, is_empty, after_front, pad}
use Rattle.std.specs.declared.cmp.Ordering.{Ordering}
use Rattle.std.specs.declared.cmp.Ordering.TheVariants.{Less, Equal, Greater}
use Rattle.house.proofs.OrderAlgebra.{order_append}
use Rattle.house.proofs.Decisions.{same_true, is_same_lem, not_same}
use Rattle.house.proofs.Small.{clash}
use Rattle.blanks.specs.Blanks.{without_last_blanks, trimmed}
use Rattle.blanks.proofs.TrimLaws.{trimmed_short}
use Rattle.lines_words.specs.Words.{event_key, part_at, chart_event, hash_from, event_hash, key_at}
use Rattle.lines_words.proofs.EventNeeds.{length_part}
use Rattle.std.specs.Ordering.{ordering_then}

-- what does not end with a blank: nothing is left to drop
twice_last : (t : Text) → without_last_blanks (without_last_blanks t) ≡ without_last_blanks t
unfolding without_last_blanks
twice_last [] = refl
twice_last (b ∷ t) = go (is_blank b && is_empty (without_last_blanks t)) refl (twice_last t)
  where
    go : (u : Bool) → (is_blank b && is_empty (without_last_blanks t)) ≡ u → without_last_blanks (without_last_blanks t) ≡ without_last_blanks t
        → without_last_blanks (cond u [] (b ∷ without_last_blanks t)) ≡ cond u [] (b ∷ without_last_blanks t)
    go true e r = refl
    go false e r = rw (r, e)

tail_last : (b : ℕ) (t : Text) → without_last_blanks (b ∷ t) ≡ b ∷ t → without_last_blanks t ≡ t
unfolding without_last_blanks
tail_last b t h = go (is_blank b && is_empty (without_last_blanks t)) h
  where
    go : (u : Bool) → cond u [] (b ∷ without_last_blanks t) ≡ b ∷ t → without_last_blanks t ≡ t
    go true e = clash (cc)
    go false e = cc

front_last : (t : Text) → without_last_blanks t ≡ t → without_last_blanks (after_front is_blank t) ≡ after_front is_blank t
front_last [] h = h
front_last (b ∷ t) h = go (eqb b 32) (front_last t (tail_last b t h))
  where
    go : (u : Bool) → without_last_blanks (after_front is_blank t) ≡ after_front is_blank t
        → without_last_blanks (cond u (after_front is_blank t) (b ∷ t)) ≡ cond u (after_front is_blank t) (b ∷ t)
    go true r = r
    go false r = h

pub trimmed_last : (t : Text) → without_last_blanks (trimmed t) ≡ trimmed t
unfolding trimmed
trimmed_last t = front_last (without_last_blanks t) (twice_last t)

-- the blanks that a text was padded with go again
pad_blank : (w : ℕ) → without_last_blanks (pad w []) ≡ []
unfolding pad without_last_blanks
pad_blank zero = refl
pad_blank (suc w) = rw (pad_blank w)

pub pad_undone : (w : ℕ) (t : Text) → length t ≤ w → without_last_blanks (pad w t) ≡ without_last_blanks t
unfolding pad without_last_blanks
pad_undone zero [] h = refl
pad_undone zero (b ∷ t) h = absurd (not-suc-le-zero h)
pad_undone (suc w) [] h = rw (pad_blank w)
pad_undone (suc w) (b ∷ t) h = rw (pad_undone w t (le_of_suc-le-suc h))

-- so texts that were trimmed and fit are the same if they are so padded
pub pads_same : (w : ℕ) (a b : Text) → length (trimmed a) ≤ w → length (trimmed b) ≤ w → same (pad w (trimmed a)) (pad w (trimmed b)) ≡ same (trimmed a) (trimmed b)
pads_same w a b h k = go (same (trimmed a) (trimmed b)) refl
  where
    go : (t : Bool) → same (trimmed a) (trimmed b) ≡ t → same (pad w (trimmed a)) (pad w (trimmed b)) ≡ t
    go true e = is_same_lem (pad w (trimmed a)) (pad w (trimmed b)) (ap (pad w) (same_true (trimmed a) (trimmed b) e))
    go false e = not_same (pad w (trimmed a)) (pad w (trimmed b)) (λ p.
        let q : trimmed a ≡ trimmed b =
        sym (trimmed_last a) ∙ sym (pad_undone w (trimmed a) h) ∙ ap without_last_blanks p ∙ pad_undone w (trimmed b) k ∙ trimmed_last b in
        let y = is_same_lem (trimmed a) (trimmed b) q in
        clash (cc (y, e)))

-- one field
module _ (s : Text) (w at to : ℕ) where
  fits : (n : ℕ) → length (trimmed (take w (drop n s))) ≤ w
  fits n = omega (arith, trimmed_short (take w (drop n s)), length-take w (drop n s), min-le_left w (length (drop n s)))

  part_same : same (part_at s at w) (part_at s to w) ≡ same (trimmed (take w (drop at s))) (trimmed (take w (drop to s)))
  unfolding part_at
  part_same = pads_same w (take w (drop at s)) (take w (drop to s)) (fits at) (fits to)

  -- and what follows it
  turn_same : (t u : Text) → same (part_at s at w ++ t) (part_at s to w ++ u) ≡ (same (trimmed (take w (drop at s))) (trimmed (take w (drop to s))) && same t u)
  unfolding same
  turn_same t u =
      ap is_same (order_append (part_at s at w) (part_at s to w) t u (length_part s at w ∙ sym (length_part s to w)))
      ∙ both_same (order_of (part_at s at w) (part_at s to w)) (order_of t u) ∙ ap (λ (b : Bool). b && is_same (order_of t u)) part_same
    where
      both_same : (o p : Ordering) → is_same (ordering_then o p) ≡ (is_same o && is_same p)
      both_same Less p = refl
      both_same Equal p = refl
      both_same Greater p = refl

-- all four
pub chart_event_same : (s : Text) (p q : ℕ) → same (chart_event s p) (chart_event s q)
    ≡ (same (trimmed (take 9 (drop (p + 1) s))) (trimmed (take 9 (drop (q + 1) s)))
    && (same (trimmed (take 1 (drop (p + 10) s))) (trimmed (take 1 (drop (q + 10) s)))
    && (same (trimmed (take 8 (drop (p + 12) s))) (trimmed (take 8 (drop (q + 12) s)))
    && same (trimmed (take 15 (drop (p + 21) s))) (trimmed (take 15 (drop (q + 21) s))))))
unfolding chart_event
chart_event_same s p q =
    turn_same s 9 (p + 1) (q + 1) (part_at s (p + 10) 1 ++ (part_at s (p + 12) 8 ++ part_at s (p + 21) 15)) (part_at s (q + 10) 1 ++ (part_at s (q + 12) 8 ++ part_at s (q + 21) 15))
    ∙ ap (λ (b : Bool). same (trimmed (take 9 (drop (p + 1) s))) (trimmed (take 9 (drop (q + 1) s))) && b)
    (turn_same s 1 (p + 10) (q + 10) (part_at s (p + 12) 8 ++ part_at s (p + 21) 15) (part_at s (q + 12) 8 ++ part_at s (q + 21) 15)
    ∙ ap (λ (b : Bool). same (trimmed (take 1 (drop (p + 10) s))) (trimmed (take 1 (drop (q + 10) s))) && b)
    (turn_same s 8 (p + 12) (q + 12) (part_at s (p + 21) 15) (part_at s (q + 21) 15)
    ∙ ap (λ (b : Bool). same (trimmed (take 8 (drop (p + 12) s))) (trimmed (take 8 (drop (q + 12) s))) && b) (part_same s 15 (p + 21) (q + 21))))

-- a text behind a number of its own is told apart as the text is
led_same : (h : Text → ℕ) (a b : Text) → same (h a ∷ a) (h b ∷ b) ≡ same a b
led_same h a b = go (same a b) refl
  where
    go : (t : Bool) → same a b ≡ t → same (h a ∷ a) (h b ∷ b) ≡ t
    go true e = is_same_lem (h a ∷ a) (h b ∷ b) (ap (λ (u : Text). h u ∷ u) (same_true a b e))
    go false e = not_same (h a ∷ a) (h b ∷ b) (λ p.
        let q : a ≡ b = cc (p) in
        let y = is_same_lem a b q in
        clash (cc (y, e)))

-- and so is the key of that number
pub event_key_same : (s : Text) (p q : ℕ) → same (key_at event_key s p) (key_at event_key s q) ≡ same (chart_event s p) (chart_event s q)
unfolding key_at event_hash
event_key_same s p q = led_same (hash_from 0) (chart_event s p) (chart_event s q)
