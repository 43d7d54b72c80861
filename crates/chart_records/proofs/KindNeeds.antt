-- What each need of `kind_at`, `ahead` and `record_end` asks.
-- Assumes nothing.
use mathlib.Core.Path.{◌≡◌, refl, ap, ◌∙◌}
use mathlib.Core.Bool.{Bool, true, false, cond}
use Prim.Native.Nat.{ℕ, ◌+◌, ◌-◌, ◌≤◌}
use Prim.Native.Nat.{min}
use native.Mathlib.Omega.{arith}
use borrow.Author.Rules.{rules}
use borrow.Author.Tests.{lt-ltb, ltb-true, ltb-false}
use lib.Dec.{ltb}
use lib.ListN.{length, get_or, get_or-eq_default}
use Rattle.house.specs.Text.{Text}
use Rattle.house.specs.Numbers.{lesser_of}
use Rattle.lines.specs.Records.{II}
use Rattle.chart_definitions.specs.Charts.{record_kind, widths_of, body_width}
use Rattle.chart_records.specs.Reading.{record_end}

-- kind_at
pub kind_past : (s : Text) (at : ℕ) → length s ≤ at → 0 ≡ record_kind (get_or s at 0)
unfolding record_kind
kind_past s at h = rw (get_or-eq_default s 0 h)

pub ruleset for_kind_at = (rules, kind_past)

-- an immunization's fields
pub width_immunization : (k : ℕ) → k ≡ II → 1699 ≡ body_width k
unfolding body_width widths_of
width_immunization k e = rw e

-- ahead
pub ahead_is : (at n end : ℕ) → at ≤ end → at + min n (end - at) ≡ lesser_of (at + n) end
ahead_is at n end h = go (ltb end (at + n)) refl
  where
    go : (v : Bool) → ltb end (at + n) ≡ v → at + min n (end - at) ≡ cond v end (at + n)
    go true e = omega (arith, ltb-true end (at + n) e)
    go false e = omega (arith, ltb-false end (at + n) e)

pub ruleset for_ahead = (rules, ahead_is)

-- record_end
pub end_here : (s : Text) (at k w r : ℕ) → k ≡ record_kind (get_or s at 0) → w ≡ body_width k → r ≡ lesser_of (at + 1 + w) (length s) → r ≡ record_end s at
unfolding record_end
end_here s at k w r e f g = g ∙ ap (λ (n : ℕ). lesser_of (at + 1 + n) (length s)) (f ∙ ap body_width e)

pub end_past : (s : Text) (at : ℕ) → length s ≤ at → length s ≡ record_end s at
unfolding record_end
end_past s at h = rw (lt-ltb (length s) (at + 1 + body_width (record_kind (get_or s at 0))) (omega arith))

pub ruleset for_record_end = (rules, end_here, end_past)
