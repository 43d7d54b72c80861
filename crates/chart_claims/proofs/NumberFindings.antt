-- What the rules find in the lines of a written file, but for the fields that come from the chart: nothing.
-- Assumes nothing.
use Prim.Native.Nat.{ℕ, ◌≤◌}
use native.Mathlib.Omega.{arith}
use mathlib.Core.Path.{◌≡◌, refl, sym, ap, ◌∙◌}
use mathlib.Core.Bool.{Bool, true, false, not, ◌&&◌}
use mathlib.Core.List.{List, [], ◌∷◌}
use lib.Dec.{leb}
use lib.ListN.{length}
use borrow.Author.Tests.{eq-eqb, leb-true}
use Rattle.house.specs.Text.{Text, bytes, all, is_empty, within, is_letter_or_digit, run}
use Rattle.house.proofs.Small.{both}
use Rattle.house.proofs.Decisions.{is_same_lem}
use Rattle.writing.specs.Writing.{decimal}
use Rattle.lines.specs.Marks.{judged_text}
use Rattle.lines.specs.Records.{Rec, IV, IH, IF}
use Rattle.rules_definitions.specs.Forms.{field_in, text, anything, is_prefix, is_batch, is_total, is_number, table, form_of, is_judged, is_optional, is_missing, is_misformed, is_sound, is_given}
use Rattle.rules_definitions.specs.Seen.{Setting, Seen}
use Rattle.rules_definitions.specs.Rules.{Numbered, numbered, form_places, rule1, rule2, rule3_places, rule3, rule7_places, rule7, rules, rules_in, rules_of, rules_at, broken_by, broken_at}
use Rattle.chart_definitions.specs.Charts.{Charted}
use Rattle.chart_definitions.specs.Submissions.{numbered_fields, version_fields, header_fields, footer_fields}
use Rattle.chart_claims.specs.ClaimsRead.{reading}
use Rattle.chart_claims.proofs.RightLaws.{ChartKind, ip, ii, ie, not_immunized_count, ia}
use Rattle.chart_claims.proofs.DecimalLaws.{decimal_number, decimal_form, decimal_total, decimal_given, decimal_judged, some_empty}

-- THE RULES AT THESE FIELDS

module _ (s : Setting) where
  pub none_at_1 : (k : ℕ) → ChartKind k → rules_at s k 1 ≡ []
  unfolding rules_at rules_of rules_in rules table
  none_at_1 k (ip e) = ap (λ (m : ℕ). rules_at s m 1) e
  none_at_1 k (ii e) = ap (λ (m : ℕ). rules_at s m 1) e
  none_at_1 k (ie e) = ap (λ (m : ℕ). rules_at s m 1) e
  none_at_1 k (not_immunized_count e) = ap (λ (m : ℕ). rules_at s m 1) e
  none_at_1 k (ia e) = ap (λ (m : ℕ). rules_at s m 1) e

  pub rules_at_2 : (k : ℕ) → ChartKind k → rules_at s k 2 ≡ numbered 1 form_places rule1 ∷ numbered 2 form_places rule2 ∷ numbered 7 rule7_places rule7 ∷ []
  unfolding rules_at rules_of rules_in rules table
  rules_at_2 k (ip e) = ap (λ (m : ℕ). rules_at s m 2) e
  rules_at_2 k (ii e) = ap (λ (m : ℕ). rules_at s m 2) e
  rules_at_2 k (ie e) = ap (λ (m : ℕ). rules_at s m 2) e
  rules_at_2 k (not_immunized_count e) = ap (λ (m : ℕ). rules_at s m 2) e
  rules_at_2 k (ia e) = ap (λ (m : ℕ). rules_at s m 2) e

  abbrev two : List Numbered
  two = numbered 1 form_places rule1 ∷ numbered 2 form_places rule2 ∷ []

  others : (rules_at s IV 1 ≡ []) × (rules_at s IH 1 ≡ []) × (rules_at s IF 1 ≡ [])
  unfolding rules_at rules_of rules_in rules table
  others = (refl, refl, refl)

  iv_2 : rules_at s IV 2 ≡ numbered 1 form_places rule1 ∷ numbered 2 form_places rule2 ∷ numbered 3 rule3_places rule3 ∷ []
  unfolding rules_at rules_of rules_in rules table
  iv_2 = refl

  ih_if : (rules_at s IH 2 ≡ two) × (rules_at s IH 3 ≡ two) × (rules_at s IF 2 ≡ two) × (rules_at s IF 3 ≡ two)
  unfolding rules_at rules_of rules_in rules table
  ih_if = (refl, refl, refl, refl)

number_form : (k : ℕ) (t : Text) → ChartKind k → form_of k 2 t ≡ is_number t
unfolding form_of table
number_form k t (ip e) = rw e
number_form k t (ii e) = rw e
number_form k t (ie e) = rw e
number_form k t (not_immunized_count e) = rw e
number_form k t (ia e) = rw e

other_forms : (t : Text) → (form_of IH 2 t ≡ is_prefix t) × (form_of IH 3 t ≡ is_batch t) × (form_of IF 2 t ≡ is_total t) × (form_of IF 3 t ≡ true)
unfolding form_of table anything
other_forms t = (refl, refl, refl, refl)

-- A FIELD THAT IS GIVEN AND OF ITS FORM

no_and : (b : Bool) → b && false ≡ false
no_and true = refl
no_and false = refl

module _ (s : Setting) (v : Seen) (f : ℕ) (t : Text) (is : text v.line f ≡ t) (some : is_empty t ≡ false) (form : form_of v.line.kind f t ≡ true) where
  not_missing : rule1 s v f ≡ false
  unfolding rule1 is_missing
  not_missing = rw (is, some) (no_and (is_judged v.line.kind f && not (is_optional v.line.kind v.line f)))

  not_misformed : rule2 s v f ≡ false
  unfolding rule2 is_misformed
  not_misformed = rw (is, form)

  two_pass : broken_by s v f (two s) ≡ []
  two_pass = rw (not_missing, not_misformed)

-- a text of letters and digits is judged as it stands
letters_judged : (t : Text) → all is_letter_or_digit t ≡ true → judged_text t ≡ t
unfolding judged_text
letters_judged t e = refl

-- RECORDS

module _ (s : Setting) (v : Seen) (n : ℕ) (r : Charted) (line : v.line ≡ reading r.kind (numbered_fields n r)) (kind : ChartKind r.kind)
    (place : v.place ≡ n) (from : 1 ≤ n) (upto : n ≤ 99999) where
  kind_is : v.line.kind ≡ r.kind
  kind_is = ap (λ (l : Rec). l.kind) line

  pub record_type : broken_at s v 1 ≡ []
  unfolding broken_at
  record_type = ap (λ (k : ℕ). broken_by s v 1 (rules_at s k 1)) kind_is ∙ ap (broken_by s v 1) (none_at_1 s r.kind kind)

  number_is : text v.line 2 ≡ decimal n
  unfolding field_in numbered_fields
  number_is = ap (λ (l : Rec). text l 2) line ∙ decimal_judged n

  number_formed : form_of v.line.kind 2 (decimal n) ≡ true
  number_formed = ap (λ (k : ℕ). form_of k 2 (decimal n)) kind_is ∙ number_form r.kind (decimal n) kind ∙ decimal_form n from upto

  in_place : rule7 s v 2 ≡ false
  unfolding rule7
  in_place = rw (number_is, decimal_number n, eq-eqb n v.place (sym place)) (no_and (is_sound v.line.kind v.line 2))

  pub record_number : broken_at s v 2 ≡ []
  unfolding broken_at
  record_number =
      ap (λ (k : ℕ). broken_by s v 2 (rules_at s k 2)) kind_is
      ∙ ap (broken_by s v 2) (rules_at_2 s r.kind kind)
      ∙ rw (not_missing s v 2 (decimal n) number_is (decimal_given n) number_formed, not_misformed s v 2 (decimal n) number_is (decimal_given n) number_formed, in_place)

-- IV, IH AND IF

module _ (s : Setting) (v : Seen) where
  module _ (line : v.line ≡ reading IV version_fields) where
    pub version_type : broken_at s v 1 ≡ []
    unfolding broken_at
    version_type = ap (λ (l : Rec). broken_by s v 1 (rules_at s l.kind 1)) line ∙ ap (broken_by s v 1) (others s).0

    version_is : text v.line 2 ≡ bytes "7.2"
    unfolding field_in judged_text
    version_is = ap (λ (l : Rec). text l 2) line

    version_form : form_of v.line.kind 2 (bytes "7.2") ≡ true
    unfolding form_of table anything
    version_form = ap (λ (l : Rec). form_of l.kind 2 (bytes "7.2")) line

    version_named : rule3 s v 2 ≡ false
    unfolding rule3
    version_named = rw (version_is, is_same_lem (bytes "7.2") (bytes "7.2") refl) (no_and (is_given IV v.line 2))

    pub version_right : broken_at s v 2 ≡ []
    unfolding broken_at
    version_right =
        ap (λ (l : Rec). broken_by s v 2 (rules_at s l.kind 2)) line
        ∙ ap (broken_by s v 2) (iv_2 s)
        ∙ rw (not_missing s v 2 (bytes "7.2") version_is refl version_form, not_misformed s v 2 (bytes "7.2") version_is refl version_form, version_named)

  -- a field of letters and digits
  given_is : (f : ℕ) (lo hi : ℕ) (t : Text) → 1 ≤ lo → run lo hi is_letter_or_digit t ≡ true → (is_empty t ≡ false) × (judged_text t ≡ t)
  unfolding run
  given_is f lo hi t l e =
      let k = both (within lo hi (length t)) (all is_letter_or_digit t) e in
      let w = leb-true lo (length t) (both (leb lo (length t)) (leb (length t) hi) k.0).0 in
      (some_empty t (omega arith), letters_judged t k.1)

  module _ (prefix batch : Text) (p : is_prefix prefix ≡ true) (b : is_batch batch ≡ true) (line : v.line ≡ reading IH (header_fields prefix batch)) where
    pub header_type : broken_at s v 1 ≡ []
    unfolding broken_at
    header_type = ap (λ (l : Rec). broken_by s v 1 (rules_at s l.kind 1)) line ∙ ap (broken_by s v 1) (others s).1

    pub header_prefix : broken_at s v 2 ≡ []
    unfolding broken_at is_prefix field_in
    header_prefix =
        let g = given_is 2 1 3 prefix (omega arith) p in
        ap (λ (l : Rec). broken_by s v 2 (rules_at s l.kind 2)) line
        ∙ ap (broken_by s v 2) (ih_if s).0
        ∙ two_pass s v 2 prefix (ap (λ (l : Rec). text l 2) line ∙ g.1) g.0 (ap (λ (l : Rec). form_of l.kind 2 prefix) line ∙ (other_forms prefix).0 ∙ p)

    pub header_batch : broken_at s v 3 ≡ []
    unfolding broken_at is_batch field_in
    header_batch =
        let g = given_is 3 1 10 batch (omega arith) b in
        ap (λ (l : Rec). broken_by s v 3 (rules_at s l.kind 3)) line
        ∙ ap (broken_by s v 3) (ih_if s).1
        ∙ two_pass s v 3 batch (ap (λ (l : Rec). text l 3) line ∙ g.1) g.0 (ap (λ (l : Rec). form_of l.kind 3 batch) line ∙ (other_forms batch).1 ∙ b)

  module _ (n : ℕ) (upto : n ≤ 100002) (line : v.line ≡ reading IF (footer_fields n)) where
    pub footer_type : broken_at s v 1 ≡ []
    unfolding broken_at
    footer_type = ap (λ (l : Rec). broken_by s v 1 (rules_at s l.kind 1)) line ∙ ap (broken_by s v 1) (others s).2

    pub footer_count : broken_at s v 2 ≡ []
    unfolding broken_at field_in
    footer_count =
        ap (λ (l : Rec). broken_by s v 2 (rules_at s l.kind 2)) line
        ∙ ap (broken_by s v 2) (ih_if s).2
        ∙ two_pass s v 2 (decimal n) (ap (λ (l : Rec). text l 2) line ∙ decimal_judged n) (decimal_given n) (ap (λ (l : Rec). form_of l.kind 2 (decimal n)) line ∙ (other_forms (decimal n)).2 ∙ decimal_total n upto)

    pub footer_sum : broken_at s v 3 ≡ []
    unfolding broken_at field_in judged_text
    footer_sum =
        ap (λ (l : Rec). broken_by s v 3 (rules_at s l.kind 3)) line
        ∙ ap (broken_by s v 3) (ih_if s).3
        ∙ two_pass s v 3 (bytes "0") (ap (λ (l : Rec). text l 3) line) refl (ap (λ (l : Rec). form_of l.kind 3 (bytes "0")) line ∙ (other_forms (bytes "0")).3)
