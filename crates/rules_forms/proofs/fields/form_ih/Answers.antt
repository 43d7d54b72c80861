use native.Mathlib.Omega.{arith}
use borrow.Author.Tests.{ne_eqb}
use Rattle.rules_definitions.specs.Forms.{table, form_of}
use Rattle.rules_forms.proofs.fields.form_ih.Goals as goal

pub returns-in-2 : goal.returns-in-2
unfolding table form_of
returns-in-2 c = rw c.in-2.is c.is_prefix.ensures

pub returns-in-3 : goal.returns-in-3
unfolding table form_of
returns-in-3 c = rw c.in-3.is c.is_batch.ensures

pub returns-in_default : goal.returns-in_default
unfolding table form_of
returns-in_default c = simp (ne_eqb c.args.f 2 (λ e. omega (arith, e)), ne_eqb c.args.f 3 (λ e. omega (arith, e)))
