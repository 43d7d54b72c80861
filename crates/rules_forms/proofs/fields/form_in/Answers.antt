use native.Mathlib.Omega.{arith}
use borrow.Author.Tests.{ne_eqb}
use Rattle.rules_definitions.specs.Forms.{table, form_of}
use Rattle.rules_forms.proofs.fields.form_in.Goals as goal

pub returns-in-2 : goal.returns-in-2
unfolding table form_of
returns-in-2 c = rw c.in-2.is c.is_number.ensures

pub returns-in-3 : goal.returns-in-3
unfolding table form_of
returns-in-3 c = rw c.in-3.is c.is_uli.ensures

pub returns-in-4 : goal.returns-in-4
unfolding table form_of
returns-in-4 c = rw c.in-4.is c.is_type.ensures

pub returns-in-5 : goal.returns-in-5
unfolding table form_of
returns-in-5 c = rw c.in-5.is c.is_date.ensures

pub returns-in-6 : goal.returns-in-6
unfolding table form_of
returns-in-6 c = rw c.in-6.is c.is_reason_not.ensures

pub returns-in-7 : goal.returns-in-7
unfolding table form_of
returns-in-7 c = rw c.in-7.is c.is_organization.ensures

pub returns-in-8 : goal.returns-in-8
unfolding table form_of
returns-in-8 c = rw c.in-8.is c.is_grade.ensures

pub returns-in_default : goal.returns-in_default
unfolding table form_of
returns-in_default c = simp (ne_eqb c.args.f 2 (λ e. omega (arith, e)), ne_eqb c.args.f 3 (λ e. omega (arith, e)), ne_eqb c.args.f 4 (λ e. omega (arith, e)), ne_eqb c.args.f 5 (λ e. omega (arith, e)), ne_eqb c.args.f 6 (λ e. omega (arith, e)), ne_eqb c.args.f 7 (λ e. omega (arith, e)), ne_eqb c.args.f 8 (λ e. omega (arith, e)))
