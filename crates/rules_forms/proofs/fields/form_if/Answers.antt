use Rattle.rules_forms.proofs.FieldNeeds.{same_either}
use lib.Dec.{eqb}
use native.Mathlib.Omega.{arith}
use borrow.Author.Tests.{ne_eqb}
use Rattle.rules_definitions.specs.Forms.{table, form_of, anything}
use Rattle.rules_forms.proofs.fields.form_if.Goals as goal

pub returns-in-2 : goal.returns-in-2
unfolding table form_of
returns-in-2 c = rw c.in-2.is c.is_total.ensures

pub returns-in_default : goal.returns-in_default
unfolding table form_of anything
returns-in_default c = simp (ne_eqb c.args.f 2 (λ e. omega (arith, e))) (same_either (eqb c.args.f 3))
