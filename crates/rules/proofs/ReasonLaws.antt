-- The reason at II 11: one that is sound fills two bytes, so that rules 4, 5 and 11 read the same of it padded.
-- Assumes nothing.
use mathlib.Core.Path.{◌≡◌, refl, ap}
use mathlib.Core.Bool.{Bool, true, false, not, cond, ◌&&◌}
use mathlib.Core.List.{[], ◌∷◌}
use Prim.Native.Nat.{ℕ}
use Rattle.house.specs.Text.{Text, is_empty, pad}
use Rattle.house.proofs.Small.{both, clash}
use Rattle.lines.specs.Records.{Rec, II}
use Rattle.book.specs.declared.Sections.{Sections}
use Rattle.book.specs.Book.{code_text}
use Rattle.rules_definitions.specs.Forms.{text, table, form_of, is_missing, is_misformed, is_sound, is_reason}
use Rattle.rules_definitions.specs.Codes.{reason_read}
use Rattle.rules_forms.specs.FieldLeaves.{lowest, given_in}
use Rattle.rules_fields.specs.declared.Day.{Day}
use Rattle.book.specs.LookUp.{known_by}
use Rattle.rules_fields.specs.Fields.{rules4and5_of, is_pair_wrong}
use Rattle.rules.proofs.LowestLaws.{low_same}
use Rattle.rules.proofs.CodeLaws.{code_of, pair_of}

reason_whole : (t : Text) → is_reason t ≡ true → pad 2 (reason_read t) ≡ reason_read t
unfolding is_reason reason_read pad
reason_whole [] h = clash (cc)
reason_whole (a ∷ []) h = refl
reason_whole (a ∷ b ∷ []) h = refl
reason_whole (a ∷ b ∷ c ∷ t) h = clash (cc)

-- a field that is sound and not empty has the form of a reason
reason_form : (l : Rec) → is_sound II l 11 ≡ true → is_empty (text l 11) ≡ false → is_reason (text l 11) ≡ true
unfolding is_sound is_misformed form_of table
reason_form l h e = go (is_reason (text l 11)) (is_empty (text l 11)) e (both (not (is_missing II l 11)) (not (not (is_reason (text l 11)) && not (is_empty (text l 11)))) h).1
  where
    go : (ok e : Bool) → e ≡ false → not (not ok && not e) ≡ true → ok ≡ true
    go true e p z = refl
    go false true p z = clash (cc)
    go false false p z = clash (cc)

given_whole : (t : Text) → given_in II 11 t ≡ true → pad 2 (reason_read t) ≡ reason_read t
unfolding given_in form_of table
given_whole t h = reason_whole t (both (not (is_empty t)) (is_reason t) h).1

-- what is asked of a field that is given counts only there
given_only : (n : ℕ) (a g k m p r : Bool) → (g ≡ true → k ≡ m) → (g ≡ true → p ≡ r) → cond (a && (g && k) && p) n 0 ≡ cond (a && (g && m) && r) n 0
given_only n false g k m p r x y = refl
given_only n true false k m p r x y = refl
given_only n true true k m p r x y = rw (x refl, y refl)

module _ (book : Text) (q : Sections) (day : Day) where
  pub reason_code : (l : Rec)
      → lowest II l 11 (code_of 3 (pad 2 (reason_read (text l 11))) book q day (text l 11)) ≡ lowest II l 11 (code_of 3 (reason_read (text l 11)) book q day (text l 11))
  unfolding rules4and5_of
  reason_code l = low_same II l 11 _ _ (λ h. go h (is_empty (text l 11)) refl)
    where
      go : is_sound II l 11 ≡ true → (e : Bool) → is_empty (text l 11) ≡ e
          → code_of 3 (pad 2 (reason_read (text l 11))) book q day (text l 11) ≡ code_of 3 (reason_read (text l 11)) book q day (text l 11)
      go h true e = rw e
      go h false e = ap (λ (r : Text). code_of 3 r book q day (text l 11)) (reason_whole (text l 11) (reason_form l h e))

  pub reason_pair : (t vaccine : Text) → pair_of II 11 t (pad 2 (reason_read t)) vaccine 3 7 book q day ≡ pair_of II 11 t (reason_read t) vaccine 3 7 book q day
  reason_pair t vaccine =
      given_only 11 (given_in II 8 vaccine && known_by book q 1 (code_text 1 vaccine [])) (given_in II 11 t) _ _ _ _
      (λ h. ap (λ (r : Text). known_by book q 3 (code_text 3 r [])) (given_whole t h)) (λ h. ap (λ (r : Text). is_pair_wrong 7 vaccine r book q day) (given_whole t h))
