-- No second answer meets the contract of a public function: each contract is an equation with what a definition gives.
-- Assumes nothing.
use mathlib.Core.Path.{◌≡◌, sym, ◌∙◌}
use mathlib.Core.Bool.{Bool}
use Prim.Native.Nat.{ℕ}
use Rattle.house.specs.Text.{Text}
use Rattle.book.specs.declared.Sections.{Sections}
use Rattle.rules_fields.specs.declared.Day.{Day}
use Rattle.rules_fields.specs.declared.Facts.{Facts}
use Rattle.rules_fields.specs.Fields.{code_by, ii4_type, ii8_vaccine, ii9_site, ii10_method, ii11_reason, ii12_dosage, ii13_dosage_type, ie4_antigen}

abbrev One : {A : Type 0} → A → Type 0
One {A} x = (r q : A) → r ≡ x → q ≡ x → r ≡ q

one : {A : Type 0} (x : A) → One x
one x r q e f = e ∙ sym f

module _ (t book : Text) (q : Sections) (day : Day) where
  code_field : (k : ℕ) (x : Bool) (f : ℕ) (code : Text) → One (code_by k x f t code book q day)
  code_field k x f code = one _

  ie4_antigen_lem : (vaccine : Text) (again : Bool) → One (ie4_antigen t vaccine again book q day)
  ie4_antigen_lem vaccine again = one _

  ii8_vaccine_lem : (differ repeated : Bool) → One (ii8_vaccine t differ book q day repeated)
  ii8_vaccine_lem differ repeated = one _

  ii11_reason_lem : (x : Bool) (vaccine : Text) → One (ii11_reason x t vaccine book q day)
  ii11_reason_lem x vaccine = one _

  ii13_dosage_type_lem : (x : Bool) (dosage : Text) → One (ii13_dosage_type x t dosage book q day)
  ii13_dosage_type_lem x dosage = one _

ii4_type_lem : (t : Text) (facts : Facts) → One (ii4_type t facts)
ii4_type_lem t facts = one _

module _ (x : Bool) (t u : Text) where
  ii9_site_lem : One (ii9_site x t u)
  ii9_site_lem = one _

  ii10_method_lem : One (ii10_method x t u)
  ii10_method_lem = one _

  ii12_dosage_lem : One (ii12_dosage x t u)
  ii12_dosage_lem = one _
