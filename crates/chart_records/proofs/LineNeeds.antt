-- What each need of `line_length` asks.
-- Assumes nothing.
use mathlib.Core.Path.{◌≡◌, sym, ap, ◌∙◌}
use mathlib.Core.Bool.{true}
use mathlib.Core.List.{List}
use Prim.Native.Nat.{ℕ, ◌+◌, ◌-◌, ◌≤◌, ◌<◌}
use native.Mathlib.Omega.{arith}
use borrow.Author.Rules.{rules}
use lib.ListN.{length, get_or, take, drop}
use Rattle.house.specs.Text.{Text, joined}
use Rattle.writing.specs.Writing.{decimal}
use Rattle.chart_definitions.specs.Charts.{record_kind, widths_of, cut, well_formed}
use Rattle.chart_definitions.specs.Submissions.{piped, type_text, record_text}
use Rattle.chart_records.specs.Reading.{charted_at}
use Rattle.chart_records.specs.Inside.{cut_length, given_end}
use Rattle.chart_records.proofs.ChartLaws.{at_kind}
use Rattle.chart_records.proofs.LengthLaws.{record_length}
use Rattle.chart_records.proofs.NoteLaws.{given_from, given_to, given_cut}

module _ (s : Text) (at end : ℕ) (h : at < length s) (w : well_formed (charted_at s at) ≡ true) (ee : end ≡ given_end s at) where
  pub body_from : at + 1 ≤ end
  body_from = omega (arith, ee, given_from s at h)

  pub body_to : end ≤ length s
  body_to = omega (arith, ee, given_to s at h w)

  module _ (k t m f : ℕ) (ek : k ≡ record_kind (get_or s at 0)) (ef : f ≡ cut_length (widths_of k) (take (end - (at + 1)) (drop (at + 1) s))) where
    fields_are : f ≡ cut_length (widths_of k) (charted_at s at).body
    unfolding cut_length
    fields_are =
        ef ∙ ap (λ (e : ℕ). length (joined piped (cut (widths_of k) (take (e - (at + 1)) (drop (at + 1) s))))) ee
        ∙ ap (λ (ts : List Text). length (joined piped ts)) (given_cut s at (widths_of k) h)

    pub record_is : (n : ℕ) → t ≡ length (type_text k) → m ≡ length (decimal n) → t + m + f + 3 ≡ length (record_text n (charted_at s at))
    record_is n et em =
        let q : (charted_at s at).kind ≡ k = at_kind s at ∙ sym ek in
        sym (record_length n (charted_at s at) ∙ rw (q, ← fields_are, ← et, ← em))

pub ruleset for_line_length = (rules, body_from, body_to, record_is)
