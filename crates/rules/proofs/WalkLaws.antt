-- Lines of parts of a file, one line on.
-- Assumes nothing.
use mathlib.Core.Path.{◌≡◌, refl, ◌∙◌}
use mathlib.Core.Bool.{Bool, true, false}
use mathlib.Core.List.{[], ◌∷◌, ◌++◌, reverse, reverse-append}
use Prim.Native.Nat.{ℕ, ◌-◌, ◌≤◌, ◌<◌}
use native.Mathlib.Omega.{arith}
use borrow.Author.Tests.{ltb-true, ltb-false}
use lib.Dec.{eqb, ltb}
use lib.ListN.{length, take, drop, length-drop}
use lib.Seq.{take_all}
use Rattle.house.specs.Text.{Text}
use Rattle.lines_fields.specs.declared.LineAt.{LineAt}
use Rattle.lines_fields.specs.Lines.{LineIs}
use Rattle.lines.specs.Records.{is_kind, record_of, rec_of, recs}
use Rattle.lines.specs.Inside.{whole}
use Rattle.lines_fields.specs.Inside.{part}
use Rattle.lines_fields.proofs.CutLaws.{part_empty, part_start, part_split}
use Rattle.lines.proofs.PartLaws.{recs_nil, recs_append, recs_past, recs_on, part_whole, ended_inside, recs_step}
use Rattle.rules.specs.Walk.{lines_before}

pub no_recs : (file : Text) (p : ℕ) → recs (part file p p) ≡ []
no_recs file p = rw (part_empty file p) recs_nil

pub kind_is : (line : Text) (k j : ℕ) → k ≡ record_of line → is_kind j (rec_of line) ≡ eqb k j
unfolding rec_of
kind_is line k j e = rw e

-- also a last line without its LF
module _ (s : Text) (at : ℕ) (q : LineAt) (e : LineIs s at q) (h : at < length s) (w : whole (take at s) ≡ true) where
  pub recs_next : (p : ℕ) → p ≤ at → recs (part s p q.next) ≡ recs (part s p at) ++ (rec_of (part s at q.end) ∷ [])
  recs_next p k = go (ltb q.next (length s)) refl
    where
      go : (t : Bool) → ltb q.next (length s) ≡ t → recs (part s p q.next) ≡ recs (part s p at) ++ (rec_of (part s at q.end) ∷ [])
      go true m = recs_step s at q e (ended_inside s at q e (ltb-true _ _ m)) w p k
      go false m =
          let n : length (drop at s) ≤ q.next - at = omega (arith, ltb-false q.next (length s) m, length-drop at s) in
          let o : at ≤ q.next = omega (arith, e.from, e.on) in
          rw (part_split s p at q.next k o)
          (recs_append (part s p at) (part s at q.next) (part_whole s p at w)
          ∙ rw (take_all (q.next - at) (drop at s) n, recs_on s at q e h, recs_past s q.next (ltb-false _ _ m)))

  pub back_step : (p : ℕ) → p ≤ at → reverse (recs (part s p q.next)) ≡ rec_of (part s at q.end) ∷ reverse (recs (part s p at))
  back_step p k = rw (recs_next p k) (reverse-append (recs (part s p at)) (rec_of (part s at q.end) ∷ []))

  pub before_step : lines_before s q.next ≡ rec_of (part s at q.end) ∷ lines_before s at
  unfolding lines_before
  before_step = rw (← part_start s q.next, ← part_start s at) (back_step 0 (omega arith))
