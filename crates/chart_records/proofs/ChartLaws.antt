-- The records of a chart one after the other, and the fields of a record.
-- Assumes nothing.
use mathlib.Core.Path.{◌≡◌, refl, sym, ap, ◌∙◌}
use mathlib.Core.Bool.{Bool, true, false, cond}
use mathlib.Core.List.{List, [], ◌∷◌}
use Prim.Native.Nat.{ℕ, zero, suc, ◌+◌, ◌-◌, ◌≤◌, ◌<◌}
use native.Mathlib.Omega.{arith}
use borrow.Author.Tests.{ltb-true, ltb-false}
use lib.Dec.{ltb}
use lib.ListN.{length, get_or, take, drop, length-drop}
use lib.Seq.{drop-drop, take_all}
use Rattle.house.specs.Text.{Text}
use Rattle.house.specs.Numbers.{lesser_of}
use Rattle.house.proofs.Suffix.{drop_here, drop_past}
use Rattle.blanks.specs.Blanks.{trimmed}
use Rattle.chart_definitions.specs.Charts.{Charted, record_kind, body_width, charted_after, charted_in, cut}
use Rattle.chart_records.specs.Reading.{charted_at, record_end}

-- RECORDS

-- after n bytes that belong to the last record, the records are those of what follows these bytes
pub after_drop : (n : ℕ) (s : Text) → charted_after n s ≡ charted_in (drop n s)
unfolding charted_in charted_after
after_drop zero s = refl
after_drop (suc n) [] = refl
after_drop (suc n) (b ∷ s) = after_drop n s

pub charted_end : (s : Text) (at : ℕ) → length s ≤ at → charted_in (drop at s) ≡ []
unfolding charted_in charted_after
charted_end s at h = rw (drop_past s at h)

one : (b : ℕ) (s : Text) → charted_in (b ∷ s) ≡ record { kind = record_kind b; body = take (body_width (record_kind b)) s } ∷ charted_after (body_width (record_kind b)) s
unfolding charted_in charted_after
one b s = refl

-- the record at a position, and those from where its fields end on
pub charted_here : (s : Text) (at : ℕ) → at < length s
    → charted_in (drop at s) ≡ charted_at s at ∷ charted_in (drop (at + 1 + body_width (record_kind (get_or s at 0))) s)
unfolding charted_at
charted_here s at h = rw (drop_here s at h, one, after_drop, drop-drop)

pub at_kind : (s : Text) (at : ℕ) → (charted_at s at).kind ≡ record_kind (get_or s at 0)
unfolding charted_at
at_kind s at = refl

-- past the end there are as many as at the end
lesser_drop : (n : ℕ) (s : Text) → charted_in (drop n s) ≡ charted_in (drop (lesser_of n (length s)) s)
lesser_drop n s = go (ltb (length s) n) refl
  where
    go : (v : Bool) → ltb (length s) n ≡ v → charted_in (drop n s) ≡ charted_in (drop (cond v (length s) n) s)
    go true e = charted_end s n (omega (arith, ltb-true (length s) n e)) ∙ sym (charted_end s (length s) (omega arith))
    go false e = refl

-- and so from where it ends
pub charted_on : (s : Text) (at : ℕ) → at < length s → charted_in (drop at s) ≡ charted_at s at ∷ charted_in (drop (record_end s at) s)
unfolding record_end
charted_on s at h =
    charted_here s at h ∙ ap (λ (rs : List Charted). charted_at s at ∷ rs) (lesser_drop (at + 1 + body_width (record_kind (get_or s at 0))) s)

-- where it ends: behind its start, and no later than the chart
module _ (s : Text) (at e : ℕ) (p : e ≡ record_end s at) where
  end_of_lem : (v : Bool) → ltb (length s) (at + 1 + body_width (record_kind (get_or s at 0))) ≡ v
      → e ≡ cond v (length s) (at + 1 + body_width (record_kind (get_or s at 0))) → (e ≤ length s) × (at < length s → at < e)
  end_of_lem true t q = (omega (arith, q), λ h. omega (arith, q))
  end_of_lem false t q = (omega (arith, q, ltb-false (length s) (at + 1 + body_width (record_kind (get_or s at 0))) t), λ h. omega (arith, q))

  ends : (e ≤ length s) × (at < length s → at < e)
  unfolding record_end
  ends = end_of_lem (ltb (length s) (at + 1 + body_width (record_kind (get_or s at 0)))) refl p

  pub end_within : e ≤ length s
  end_within = ends.0

  pub end_behind : at < length s → at < e
  end_behind h = ends.1 h

  -- so less of the chart is left
  pub end_falls : at < length s → length s - e < length s - at
  end_falls h = omega (arith, ends.0, ends.1 h)

-- a part that is so wide, or goes to the end
module _ (t : Text) (at w end : ℕ) (h : at ≤ length t) (e : end ≡ lesser_of (at + w) (length t)) where
  by_end : (v : Bool) → ltb (length t) (at + w) ≡ v → end ≡ cond v (length t) (at + w)
      → (take (end - at) (drop at t) ≡ take w (drop at t)) × (drop end t ≡ drop (at + w) t)
  by_end true u q =
      let k : length t < at + w = ltb-true (length t) (at + w) u in (
        take_all (end - at) (drop at t) (omega (arith, q, length-drop at t)) ∙ sym (take_all w (drop at t) (omega (arith, length-drop at t))),
        drop_past t end (omega (arith, q)) ∙ sym (drop_past t (at + w) (omega arith)),
      )
  by_end false u q =
      let k : end - at ≡ w = omega (arith, q) in
      (ap (λ (n : ℕ). take n (drop at t)) k, ap (λ (n : ℕ). drop n t) q)

  pub wide : (take (end - at) (drop at t) ≡ take w (drop at t)) × (drop end t ≡ drop (at + w) t)
  wide = by_end (ltb (length t) (at + w)) refl e

-- FIELDS, by the number of the first of them

pub cut_end : (ws : List ℕ) (i : ℕ) (t : Text) → length ws ≤ i → cut (drop i ws) t ≡ []
cut_end ws i t h = rw (drop_past ws i h)

pub cut_here : (ws : List ℕ) (i : ℕ) (body : Text) (off : ℕ) → i < length ws
    → cut (drop i ws) (drop off body) ≡ trimmed (take (get_or ws i 0) (drop off body)) ∷ cut (drop (i + 1) ws) (drop (off + get_or ws i 0) body)
cut_here ws i body off h = rw (drop_here ws i h, drop-drop)
