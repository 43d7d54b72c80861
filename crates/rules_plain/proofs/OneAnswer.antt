-- No second answer meets the contract of a public function: each contract is an equation with what a definition gives.
-- Assumes nothing.
use mathlib.Core.Path.{◌≡◌, sym, ◌∙◌}
use mathlib.Core.Bool.{Bool, false}
use Prim.Native.Nat.{ℕ}
use Rattle.house.specs.Text.{Text}
use Rattle.rules_forms.specs.TextLeaves.{value_of}
use Rattle.rules_forms.specs.FieldLeaves.{lowest_in}
use Rattle.rules_plain.specs.PlainFields.{rule7_by, rule6_by, rule8_today_by, rule8_by, rule3_by, rule14_by}

abbrev One : {A : Type 0} → A → Type 0
One {A} x = (r q : A) → r ≡ x → q ≡ x → r ≡ q

one : {A : Type 0} (x : A) → One x
one x r q e f = e ∙ sym f

field2_number : (k : ℕ) (t : Text) (place : ℕ) → One (lowest_in k false 2 t (rule7_by (value_of t) place))
field2_number k t place = one _

field3_uli : (k : ℕ) (t uli : Text) → One (lowest_in k false 3 t (rule6_by t uli))
field3_uli k t uli = one _

ip25_birth : (t : Text) (today : ℕ) → One (lowest_in 3 false 25 t (rule8_today_by t today))
ip25_birth t today = one _

ii6_date : (t : Text) (today born : ℕ) → One (lowest_in 4 false 6 t (rule8_by t today born))
ii6_date t today born = one _

in5_date : (t : Text) (today born : ℕ) → One (lowest_in 6 false 5 t (rule8_by t today born))
in5_date t today born = one _

iv2_version : (t : Text) → One (lowest_in 1 false 2 t (rule3_by t))
iv2_version t = one _

ii15_lot : (x : Bool) (t : Text) (again : Bool) → One (lowest_in 4 x 15 t (rule14_by again))
ii15_lot x t again = one _
