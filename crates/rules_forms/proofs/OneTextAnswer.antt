-- No second answer meets the contract of a public function: each contract is an equation with what a definition gives.
-- Assumes nothing.
use mathlib.Core.Path.{◌≡◌, sym, ◌∙◌}
use Rattle.house.specs.Text.{Text}
use Rattle.dates.specs.Dates.{is_date}
use Rattle.rules_definitions.specs.Forms.{is_prefix, is_batch, is_total, is_number, is_uli, is_type, is_historical, is_code, is_site_text, is_method_text, is_reason, is_dosage, is_dosage_type, is_manufacturer, is_lot, is_count, is_reason_not, is_organization, is_grade}
use Rattle.rules_forms.specs.TextLeaves.{value_of}

abbrev One : {A : Type 0} → A → Type 0
One {A} x = (r q : A) → r ≡ x → q ≡ x → r ≡ q

one : {A : Type 0} (x : A) → One x
one x r q e f = e ∙ sym f

is_prefix_lem : (t : Text) → One (is_prefix t)
is_prefix_lem t = one _

is_batch_lem : (t : Text) → One (is_batch t)
is_batch_lem t = one _

is_total_lem : (t : Text) → One (is_total t)
is_total_lem t = one _

is_number_lem : (t : Text) → One (is_number t)
is_number_lem t = one _

is_uli_lem : (t : Text) → One (is_uli t)
is_uli_lem t = one _

is_date_lem : (t : Text) → One (is_date t)
is_date_lem t = one _

is_type_lem : (t : Text) → One (is_type t)
is_type_lem t = one _

is_historical_lem : (t : Text) → One (is_historical t)
is_historical_lem t = one _

is_code_lem : (t : Text) → One (is_code t)
is_code_lem t = one _

is_site_text_lem : (t : Text) → One (is_site_text t)
is_site_text_lem t = one _

is_method_text_lem : (t : Text) → One (is_method_text t)
is_method_text_lem t = one _

is_reason_lem : (t : Text) → One (is_reason t)
is_reason_lem t = one _

is_dosage_lem : (t : Text) → One (is_dosage t)
is_dosage_lem t = one _

is_dosage_type_lem : (t : Text) → One (is_dosage_type t)
is_dosage_type_lem t = one _

is_manufacturer_lem : (t : Text) → One (is_manufacturer t)
is_manufacturer_lem t = one _

is_lot_lem : (t : Text) → One (is_lot t)
is_lot_lem t = one _

is_count_lem : (t : Text) → One (is_count t)
is_count_lem t = one _

is_reason_not_lem : (t : Text) → One (is_reason_not t)
is_reason_not_lem t = one _

is_organization_lem : (t : Text) → One (is_organization t)
is_organization_lem t = one _

is_grade_lem : (t : Text) → One (is_grade t)
is_grade_lem t = one _

value : (t : Text) → One (value_of t)
value t = one _
