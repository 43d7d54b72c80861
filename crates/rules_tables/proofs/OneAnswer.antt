-- No second answer meets the contract of a public function: each contract is an equation with what a definition gives.
-- Assumes nothing.
use mathlib.Core.Path.{◌≡◌, sym, ◌∙◌}
use Rattle.house.specs.Text.{Text, pad}
use Rattle.rules_definitions.specs.Codes.{is_site, is_method, reason_read}
use Rattle.rules_definitions.specs.Rules.{site_wrong, method_wrong}

abbrev One : {A : Type 0} → A → Type 0
One {A} x = (r q : A) → r ≡ x → q ≡ x → r ≡ q

one : {A : Type 0} (x : A) → One x
one x r q e f = e ∙ sym f

is_site_lem : (t : Text) → One (is_site t)
is_site_lem t = one _

is_method_lem : (t : Text) → One (is_method t)
is_method_lem t = one _

reason_read_lem : (t : Text) → One (pad 2 (reason_read t))
reason_read_lem t = one _

rule9_site_wrong : (s m : Text) → One (site_wrong s m)
rule9_site_wrong s m = one _

rule9_method_wrong : (s m : Text) → One (method_wrong s m)
rule9_method_wrong s m = one _
