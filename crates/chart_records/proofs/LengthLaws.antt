-- How long written lines are: of fields, of a record, of the footer.
-- Assumes nothing.
use mathlib.Core.Path.{◌≡◌, refl, ap, ◌∙◌}
use mathlib.Core.Bool.{Bool, true, false}
use mathlib.Core.List.{List, [], ◌∷◌}
use Prim.Native.Nat.{ℕ, zero, suc, ◌+◌, ◌*◌, ◌/◌, ◌≤◌, ◌<◌}
use native.Mathlib.Omega.{arith}
use borrow.Author.Tests.{ltb-true, ltb-false}
use lib.Dec.{ltb}
use lib.ListN.{length, get_or, take, drop, length-append}
use Rattle.house.specs.Text.{Text, bytes, joined}
use Rattle.blanks.specs.Blanks.{trimmed}
use Rattle.writing.specs.Writing.{decimal}
use Rattle.writing.proofs.DecimalLaws.{long_small, long_step}
use Rattle.lines.specs.Lines.{LF}
use Rattle.chart_definitions.specs.Charts.{Charted, widths_of, cut, written_fields}
use Rattle.chart_definitions.specs.Submissions.{piped, line_text, type_text, numbered_fields, record_text, footer_fields}
use Rattle.chart_records.specs.Inside.{cut_length}
use Rattle.chart_records.proofs.ChartLaws.{cut_end, cut_here}

-- a field and its pipe, before others
pub piped_length : (t : Text) (ts : List Text) → length (joined piped (t ∷ ts)) ≡ length t + 1 + length (joined piped ts)
piped_length t ts = simp length-append (omega arith)

pub line_length : (ts : List Text) → length (line_text ts) ≡ length (joined piped ts) + 1
unfolding line_text
line_length ts = length-append (joined piped ts) (LF ∷ [])

-- the fields from number i on
pub cut_length_end : (ws : List ℕ) (i : ℕ) (t : Text) → length ws ≤ i → cut_length (drop i ws) t ≡ 0
unfolding cut_length
cut_length_end ws i t h = rw (cut_end ws i t h)

pub cut_length_here : (ws : List ℕ) (i : ℕ) (body : Text) (off : ℕ) → i < length ws
    → cut_length (drop i ws) (drop off body)
    ≡ length (trimmed (take (get_or ws i 0) (drop off body))) + 1 + cut_length (drop (i + 1) ws) (drop (off + get_or ws i 0) body)
unfolding cut_length
cut_length_here ws i body off h =
    ap (λ (ts : List Text). length (joined piped ts)) (cut_here ws i body off h)
    ∙ piped_length (trimmed (take (get_or ws i 0) (drop off body))) (cut (drop (i + 1) ws) (drop (off + get_or ws i 0) body))

-- a record
pub record_length : (n : ℕ) (r : Charted) → length (record_text n r) ≡ length (type_text r.kind) + length (decimal n) + cut_length (widths_of r.kind) r.body + 3
unfolding record_text numbered_fields written_fields cut_length
record_length n r =
    line_length (type_text r.kind ∷ decimal n ∷ cut (widths_of r.kind) r.body)
    ∙ rw (piped_length (type_text r.kind) (decimal n ∷ cut (widths_of r.kind) r.body), piped_length (decimal n) (cut (widths_of r.kind) r.body)) (omega arith)

-- the footer
pub footer_length : (n : ℕ) → length (line_text (footer_fields n)) ≡ length (decimal n) + 7
footer_length n =
    line_length (footer_fields n)
    ∙ rw (piped_length (bytes "IF") (decimal n ∷ bytes "0" ∷ []), piped_length (decimal n) (bytes "0" ∷ [])) (omega arith)

-- a number of 64 bits has at most twenty digits
abbrev tens : ℕ → ℕ
tens zero = 10
tens (suc j) = 10 * tens j

digits_few : (j n : ℕ) → n < tens j → length (decimal n) ≤ suc j
digits_few zero n h = omega (arith, long_small n h)
digits_few (suc j) n h = go (ltb n 10) refl (digits_few j (n / 10))
  where
    go : (v : Bool) → ltb n 10 ≡ v → (n / 10 < tens j → length (decimal (n / 10)) ≤ suc j) → length (decimal n) ≤ suc (suc j)
    go true e r = omega (arith, long_small n (ltb-true n 10 e))
    go false e r = let k : n / 10 < tens j = omega arith in omega (arith, long_step n (ltb-false n 10 e), r k)

pub number_few : (n : ℕ) → n < 18446744073709551616 → length (decimal n) ≤ 20
number_few n h = digits_few 19 n (omega arith)
