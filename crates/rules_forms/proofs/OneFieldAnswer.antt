-- No second answer meets the contract of a public function: each contract is an equation with what a definition gives.
-- Assumes nothing.
use mathlib.Core.Path.{◌≡◌, sym, ◌∙◌}
use mathlib.Core.Bool.{Bool}
use Prim.Native.Nat.{ℕ}
use Rattle.house.specs.Text.{Text}
use Rattle.rules_forms.specs.FieldLeaves.{relaxed_if, lowest_in, sound_in, given_in, lacks_in}

abbrev One : {A : Type 0} → A → Type 0
One {A} x = (r q : A) → r ≡ x → q ≡ x → r ≡ q

one : {A : Type 0} (x : A) → One x
one x r q e f = e ∙ sym f

relaxed : (t5 t18 t19 t20 : Text) → One (relaxed_if t5 t18 t19 t20)
relaxed t5 t18 t19 t20 = one _

rules1_and_2 : (k : ℕ) (x : Bool) (f : ℕ) (t : Text) → One (lowest_in k x f t 0)
rules1_and_2 k x f t = one _

sound_text : (k : ℕ) (x : Bool) (f : ℕ) (t : Text) → One (sound_in k x f t)
sound_text k x f t = one _

is_given_lem : (k f : ℕ) (t : Text) → One (given_in k f t)
is_given_lem k f t = one _

rule10_lacks : (t : Text) (f : ℕ) (u : Text) → One (lacks_in t f u)
rule10_lacks t f u = one _
