-- The lines of written records, and the events that they name: as of the records.
-- Assumes nothing.
use Prim.Native.Nat.{ℕ}
use mathlib.Core.Path.{◌≡◌, refl, sym, ap, ◌∙◌}
use mathlib.Core.Bool.{Bool, true, false, ◌&&◌}
use lib.Dec.{eqb}
use Rattle.house.specs.Text.{same}
use Rattle.lines.specs.Marks.{judged_text}
use Rattle.lines.specs.Records.{Rec, II, is_kind}
use Rattle.rules_definitions.specs.Forms.{field_in, text, is_optional, is_missing, is_misformed, is_sound}
use Rattle.rules_definitions.specs.Blocks.{is_in_block, joins}
use Rattle.rules_definitions.specs.Blocks as Blocks
use Rattle.chart_definitions.specs.Charts.{Charted, written_field}
use Rattle.chart_definitions.specs.Lots.{equal_as_written}
use Rattle.chart_definitions.specs.Submissions.{numbered_fields}
use Rattle.chart_definitions.proofs.LotLaws.{event_fields}
use Rattle.chart_claims.specs.ClaimsRead.{reading}

-- the line of a record that is number n
abbrev pub line_of : ℕ → Charted → Rec
line_of n r = reading r.kind (numbered_fields n r)

-- a field that was written without blanks at its ends is judged as it stands
judged_written : (r : Charted) (f : ℕ) → judged_text (written_field r f) ≡ written_field r f
unfolding judged_text
judged_written r f = refl

module _ (n : ℕ) (r : Charted) where
  text_3 : text (line_of n r) 3 ≡ written_field r 3
  unfolding field_in numbered_fields written_field
  text_3 = judged_written r 3

  text_4 : text (line_of n r) 4 ≡ written_field r 4
  unfolding field_in numbered_fields written_field
  text_4 = judged_written r 4

  text_6 : text (line_of n r) 6 ≡ written_field r 6
  unfolding field_in numbered_fields written_field
  text_6 = judged_written r 6

  text_8 : text (line_of n r) 8 ≡ written_field r 8
  unfolding field_in numbered_fields written_field
  text_8 = judged_written r 8

-- two lines join if their records are of one event
pub joins_lines : (n m : ℕ) (r q : Charted) → joins (line_of n r) (line_of m q) ≡ equal_as_written r q
unfolding joins Blocks.same_event equal_as_written
joins_lines n m r q =
    rw (text_3 n r, text_4 n r, text_6 n r, text_8 n r, text_3 m q, text_4 m q, text_6 m q, text_8 m q)
    (swap (same (written_field r 4) (written_field q 4)) (same (written_field r 3) (written_field q 3)) (same (written_field r 6) (written_field q 6) && same (written_field r 8) (written_field q 8)))
  where
    swap : (a b c : Bool) → a && (b && c) ≡ b && (a && c)
    swap true true c = refl
    swap true false c = refl
    swap false true c = refl
    swap false false c = refl

-- SOUND BY THE TEXT ALONE

module _ (l : Rec) where
  optional_not : (is_optional II l 3 ≡ false) × (is_optional II l 4 ≡ false) × (is_optional II l 6 ≡ false) × (is_optional II l 8 ≡ false)
  unfolding is_optional
  optional_not = (refl, refl, refl, refl)

sound_by : (l p : Rec) (f : ℕ) → is_optional II l f ≡ false → is_optional II p f ≡ false → text l f ≡ text p f → is_sound II l f ≡ is_sound II p f
unfolding is_sound is_missing is_misformed
sound_by l p f a b e = rw (a, b, e)

in_block_by : (l p : Rec) → is_kind II l ≡ is_kind II p → is_sound II l 3 ≡ is_sound II p 3 → is_sound II l 4 ≡ is_sound II p 4 → is_sound II l 6 ≡ is_sound II p 6 → is_sound II l 8 ≡ is_sound II p 8
    → is_in_block l ≡ is_in_block p
unfolding is_in_block
in_block_by l p k a b c d = rw (k, a, b, c, d)

pub in_block_same : (n m : ℕ) (r q : Charted) → r.kind ≡ q.kind → equal_as_written r q ≡ true → is_in_block (line_of n r) ≡ is_in_block (line_of m q)
in_block_same n m r q k e =
    let t = event_fields r q e in
    let a = optional_not (line_of n r) in
    let b = optional_not (line_of m q) in
    in_block_by (line_of n r) (line_of m q) (ap (λ (i : ℕ). eqb i II) k)
    (sound_by (line_of n r) (line_of m q) 3 a.0 b.0 (text_3 n r ∙ t.uli ∙ sym (text_3 m q)))
    (sound_by (line_of n r) (line_of m q) 4 a.1 b.1 (text_4 n r ∙ t.type ∙ sym (text_4 m q)))
    (sound_by (line_of n r) (line_of m q) 6 a.2 b.2 (text_6 n r ∙ t.date ∙ sym (text_6 m q)))
    (sound_by (line_of n r) (line_of m q) 8 a.3 b.3 (text_8 n r ∙ t.vaccine ∙ sym (text_8 m q)))

-- only an II is in a block
pub not_in_block : (l : Rec) → eqb l.kind II ≡ false → is_in_block l ≡ false
unfolding is_in_block
not_in_block l e = rw e
