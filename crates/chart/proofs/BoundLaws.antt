-- A chart and its places are bounded by the text that is written of its records.
-- Assumes nothing.
use mathlib.Core.Path.{◌≡◌, refl, ap, ◌∙◌}
use mathlib.Core.Bool.{Bool, true, false, cond}
use mathlib.Core.List.{List, [], ◌∷◌}
use Prim.Native.Nat.{ℕ, suc, ◌+◌, ◌*◌, ◌≤◌, ◌<◌}
use native.Mathlib.Omega.{arith}
use borrow.Author.Tests.{eqb-true, eqb-false}
use lib.Dec.{eqb}
use lib.ListN.{length, get_or, drop, length-append}
use Rattle.house.specs.Text.{Text, all, bytes, joined}
use Rattle.lines.specs.Records.{IP, II, IE, IN, IA}
use Rattle.writing.proofs.DecimalLaws.{long_some}
use Rattle.chart_definitions.specs.Charts.{Charted, record_kind, ip_widths, ii_widths, ie_widths, in_widths, ia_widths, widths_of, body_width, sum, charted_in, cut, written_fields, well_formed}
use Rattle.chart_definitions.specs.Submissions.{piped, type_text, record_text, records_text}
use Rattle.chart_definitions.proofs.WritingOrderLaws.{own_bytes, record_length}
use Rattle.chart_records.specs.Reading.{record_end}
use Rattle.chart_records.specs.Inside.{charted_at}
use Rattle.chart_records.proofs.ChartLaws.{charted_on}
use Rattle.chart.specs.Inside.{lot_places}
use Rattle.chart.proofs.LineNeeds.{end_is}
use Rattle.chart.proofs.PlaceLaws.{wf_here, places_ii, places_ie, places_other, places_end, chart_by}

-- THE LINE OF A RECORD

-- there is a pipe for each field
pipes : (ts : List Text) → length ts ≤ length (joined piped ts)
pipes [] = omega arith
pipes (t ∷ ts) = omega (arith, length-append (piped t) (joined piped ts), length-append t (124 ∷ []), pipes ts)

cut_many : (ws : List ℕ) (t : Text) → length (cut ws t) ≡ length ws
cut_many [] t = refl
cut_many (w ∷ ws) t = ap suc (cut_many ws (drop w t))

line_least : (n : ℕ) (r : Charted) → length (type_text r.kind) + 4 + length (widths_of r.kind) ≤ length (record_text n r)
unfolding own_bytes written_fields
line_least n r =
    omega (arith, record_length n r, long_some n, pipes (cut (widths_of r.kind) r.body), cut_many (widths_of r.kind) r.body)

line_ii : (n : ℕ) (r : Charted) → r.kind ≡ II → 26 ≤ length (record_text n r)
unfolding type_text widths_of
line_ii n r k =
    let a : length (type_text r.kind) ≡ 2 = rw k in
    let b : length (widths_of r.kind) ≡ 20 = rw k in
    omega (arith, line_least n r, a, b)

-- a chart record is at most 66 times as long as its line
body_wide : (k : ℕ) → 1 + body_width k ≤ 66 * (length (type_text k) + 4 + length (widths_of k))
unfolding body_width widths_of type_text
body_wide k = go (eqb k IP) (eqb k II) (eqb k IE) (eqb k IN) (eqb k IA)
  where
    go : (p i e n a : Bool) → 1 + sum (cond p ip_widths (cond i ii_widths (cond e ie_widths (cond n in_widths (cond a ia_widths [])))))
        ≤ 66 * (length (cond p (bytes "IP") (cond i (bytes "II") (cond e (bytes "IE") (cond n (bytes "IN") (cond a (bytes "IA") []))))) + 4
        + length (cond p ip_widths (cond i ii_widths (cond e ie_widths (cond n in_widths (cond a ia_widths []))))))
    go true i e n a = omega arith
    go false true e n a = omega arith
    go false false true n a = omega arith
    go false false false true a = omega arith
    go false false false false true = omega arith
    go false false false false false = omega arith

record_wide : (n : ℕ) (r : Charted) → 1 + body_width r.kind ≤ 66 * length (record_text n r)
record_wide n r = omega (arith, body_wide r.kind, line_least n r)

records_here : (n : ℕ) (s : Text) (at : ℕ) → at < length s
    → length (records_text n (charted_in (drop at s))) ≡ length (record_text n (charted_at s at)) + length (records_text (suc n) (charted_in (drop (record_end s at) s)))
unfolding records_text
records_here n s at h =
    ap (λ (l : List Charted). length (records_text n l)) (charted_on s at h)
    ∙ length-append (record_text n (charted_at s at)) (records_text (suc n) (charted_in (drop (record_end s at) s)))

-- ALL RECORDS FROM A POSITION ON

module _ (s : Text) where
  wide_on : (at : ℕ) → at < length s → all well_formed (charted_in (drop at s)) ≡ true
      → ((n : ℕ) → length s ≤ record_end s at + 66 * length (records_text n (charted_in (drop (record_end s at) s))))
      → (n : ℕ) → length s ≤ at + 66 * length (records_text n (charted_in (drop at s)))
  unfolding charted_at
  wide_on at h wf t n =
      omega (arith, t (suc n), records_here n s at h, record_wide n (charted_at s at), end_is s at (wf_here s at h wf))

  -- a chart is at most 66 times as long as what is written of it
  pub chart_bound : (at n : ℕ) → all well_formed (charted_in (drop at s)) ≡ true → length s ≤ at + 66 * length (records_text n (charted_in (drop at s)))
  chart_bound at n wf =
      chart_by s (λ i. (m : ℕ) → length s ≤ i + 66 * length (records_text m (charted_in (drop i s)))) (λ i h m. omega (arith, h)) wide_on at wf n

  many_on : (at : ℕ) → at < length s → all well_formed (charted_in (drop at s)) ≡ true
      → ((n : ℕ) → 26 * length (lot_places (record_end s at) (charted_in (drop (record_end s at) s)))
      ≤ length (records_text n (charted_in (drop (record_end s at) s))))
      → (n : ℕ) → 26 * length (lot_places at (charted_in (drop at s))) ≤ length (records_text n (charted_in (drop at s)))
  unfolding charted_at
  many_on at h wf t n = go (eqb (record_kind (get_or s at 0)) 4) (eqb (record_kind (get_or s at 0)) 5) refl refl
    where
      go : (u v : Bool) → eqb (record_kind (get_or s at 0)) 4 ≡ u → eqb (record_kind (get_or s at 0)) 5 ≡ v
          → 26 * length (lot_places at (charted_in (drop at s))) ≤ length (records_text n (charted_in (drop at s)))
      go true v a b =
          omega (arith, t (suc n), records_here n s at h, line_ii n (charted_at s at) (eqb-true _ _ a), ap length (places_ii s at h wf (eqb-true _ _ a)))
      go false true a b = omega (arith, t (suc n), records_here n s at h, ap length (places_ie s at h wf (eqb-true _ _ b)))
      go false false a b = omega (arith, ap length (places_other s at h wf (eqb-false _ _ a) (eqb-false _ _ b)))

  -- the line of an II has at least 26 bytes
  pub places_bound : (at n : ℕ) → all well_formed (charted_in (drop at s)) ≡ true
      → 26 * length (lot_places at (charted_in (drop at s))) ≤ length (records_text n (charted_in (drop at s)))
  places_bound at n wf =
      chart_by s (λ i. (m : ℕ) → 26 * length (lot_places i (charted_in (drop i s))) ≤ length (records_text m (charted_in (drop i s))))
      (λ i h m. omega (arith, ap length (places_end s i h))) many_on at wf n
