-- A line read as a record, field by field.
-- Assumes nothing.
use mathlib.Core.Path.{◌≡◌, refl, sym, ap}
use mathlib.Core.Bool.{Bool, true, false, not, cond, ◌&&◌, and-false}
use mathlib.Core.List.{[], ◌∷◌}
use Prim.Native.Nat.{ℕ}
use native.Mathlib.Omega.{arith}
use lib.Dec.{eqb}
use lib.ListN.{length}
use Rattle.house.specs.Text.{Text, within, is_empty}
use Rattle.lines_fields.specs.Lines.{field_of}
use Rattle.lines_fields.specs.Marks.{judged_of}
use Rattle.lines.specs.Records.{Rec, II, record_of, rec_of, is_kind}
use Rattle.rules_definitions.specs.Forms.{field_in, text, is_judged, is_relaxed, relaxed_by, is_optional, is_missing, is_misformed, is_sound, is_given}
use Rattle.rules_definitions.specs.Rules.{lacks}
use Rattle.rules_forms.specs.FieldLeaves.{out_of_province, relaxed_if, lowest, optional_in, lowest_in, sound_in, given_in, lacks_in}
use Rattle.rules_forms.proofs.SoundLaws.{given_by}

pub text_is : (t : Text) (f : ℕ) → text (rec_of t) f ≡ judged_of t f
unfolding rec_of field_in judged_of field_of
text_is t f = refl

pub kind_is : (t : Text) (k : ℕ) → is_kind k (rec_of t) ≡ eqb (record_of t) k
unfolding rec_of
kind_is t k = refl

-- an event is relaxed or not by four texts
pub relaxed_is : (l : Rec) → is_relaxed l ≡ relaxed_if (text l 5) (text l 18) (text l 19) (text l 20)
unfolding relaxed_by relaxed_if out_of_province
relaxed_is l = refl

-- a text of no bytes is empty, and no other is
pub empty_true : (t : Text) → length t ≡ 0 → is_empty t ≡ true
empty_true [] h = refl
empty_true (b ∷ t) h = absurd (omega arith)

pub empty_false : (t : Text) → (length t ≡ 0 → ⊥) → is_empty t ≡ false
empty_false [] h = absurd (h refl)
empty_false (b ∷ t) h = refl

-- Rules 1 and 2 by a field's text
pub lowest_in_lem : (k : ℕ) (l : Rec) (f later : ℕ) → lowest_in k (is_relaxed l) f (text l f) later ≡ lowest k l f later
unfolding lowest_in optional_in lowest is_missing is_misformed is_optional
lowest_in_lem k l f later = refl

pub lowest_of : (k : ℕ) (l : Rec) (t : Text) (f later : ℕ) (relaxed : Bool) → t ≡ text l f → relaxed ≡ is_relaxed l
    → lowest_in k relaxed f t later ≡ lowest k l f later
lowest_of k l t f later relaxed d e = rw (e, d) (lowest_in_lem k l f later)

-- whether the event is relaxed decides only of an empty text in II 9 to 15
module _ (k f : ℕ) (t : Text) (later : ℕ) (a b : Bool) where
  pub lowest_either : eqb k II && within 9 15 f ≡ false → lowest_in k a f t later ≡ lowest_in k b f t later
  unfolding lowest_in optional_in
  lowest_either h = rw h

  pub lowest_filled : (length t ≡ 0 → ⊥) → lowest_in k a f t later ≡ lowest_in k b f t later
  unfolding lowest_in
  lowest_filled n = rw (empty_false t n, and-false (is_judged k f && not (optional_in k a f)), and-false (is_judged k f && not (optional_in k b f)))

-- a field is sound, or given, by its text
pub sound_in_lem : (k : ℕ) (l : Rec) (f : ℕ) → sound_in k (is_relaxed l) f (text l f) ≡ is_sound k l f
unfolding sound_in is_sound lowest
sound_in_lem k l f = rw (lowest_in_lem k l f 0) (go (is_missing k l f) (is_misformed k l f))
  where
    go : (m n : Bool) → eqb (cond m 1 (cond n 2 0)) 0 ≡ not m && not n
    go true n = refl
    go false true = refl
    go false false = refl

pub sound_either : (k f : ℕ) (t : Text) (a b : Bool) → eqb k II && within 9 15 f ≡ false → sound_in k a f t ≡ sound_in k b f t
unfolding sound_in
sound_either k f t a b h = ap (λ (n : ℕ). eqb n 0) (lowest_either k f t 0 a b h)

pub given_in_lem : (k : ℕ) (l : Rec) (f : ℕ) → given_in k f (text l f) ≡ is_given k l f
unfolding given_in
given_in_lem k l f = sym (given_by k l f)

-- Rule 10 by the two fields' texts
pub lacks_in_lem : (l : Rec) (f other : ℕ) → lacks_in (text l f) other (text l other) ≡ lacks l f other
unfolding lacks_in lacks
lacks_in_lem l f other = rw (given_in_lem II l other)
