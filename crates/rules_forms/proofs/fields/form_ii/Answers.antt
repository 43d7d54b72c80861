use native.Mathlib.Omega.{arith}
use borrow.Author.Tests.{ne_eqb}
use Rattle.rules_definitions.specs.Forms.{table, form_of}
use Rattle.rules_forms.proofs.fields.form_ii.Goals as goal

pub returns-in-2 : goal.returns-in-2
unfolding table form_of
returns-in-2 c = rw c.in-2.is c.is_number.ensures

pub returns-in-3 : goal.returns-in-3
unfolding table form_of
returns-in-3 c = rw c.in-3.is c.is_uli.ensures

pub returns-in-4 : goal.returns-in-4
unfolding table form_of
returns-in-4 c = rw c.in-4.is c.is_type.ensures

pub returns-in-5 : goal.returns-in-5
unfolding table form_of
returns-in-5 c = rw c.in-5.is c.is_historical.ensures

pub returns-in-6 : goal.returns-in-6
unfolding table form_of
returns-in-6 c = rw c.in-6.is c.is_date.ensures

pub returns-in-8 : goal.returns-in-8
unfolding table form_of
returns-in-8 c = rw c.in-8.is c.is_code.ensures

pub returns-in-9 : goal.returns-in-9
unfolding table form_of
returns-in-9 c = rw c.in-9.is c.is_site_text.ensures

pub returns-in-10 : goal.returns-in-10
unfolding table form_of
returns-in-10 c = rw c.in-10.is c.is_method_text.ensures

pub returns-in-11 : goal.returns-in-11
unfolding table form_of
returns-in-11 c = rw c.in-11.is c.is_reason.ensures

pub returns-in-12 : goal.returns-in-12
unfolding table form_of
returns-in-12 c = rw c.in-12.is c.is_dosage.ensures

pub returns-in-13 : goal.returns-in-13
unfolding table form_of
returns-in-13 c = rw c.in-13.is c.is_dosage_type.ensures

pub returns-in-14 : goal.returns-in-14
unfolding table form_of
returns-in-14 c = rw c.in-14.is c.is_manufacturer.ensures

pub returns-in-15 : goal.returns-in-15
unfolding table form_of
returns-in-15 c = rw c.in-15.is c.is_lot.ensures

pub returns-in_default : goal.returns-in_default
unfolding table form_of
returns-in_default c = simp (ne_eqb c.args.f 2 (λ e. omega (arith, e)), ne_eqb c.args.f 3 (λ e. omega (arith, e)), ne_eqb c.args.f 4 (λ e. omega (arith, e)), ne_eqb c.args.f 5 (λ e. omega (arith, e)), ne_eqb c.args.f 6 (λ e. omega (arith, e)), ne_eqb c.args.f 8 (λ e. omega (arith, e)), ne_eqb c.args.f 9 (λ e. omega (arith, e)), ne_eqb c.args.f 10 (λ e. omega (arith, e)), ne_eqb c.args.f 11 (λ e. omega (arith, e)), ne_eqb c.args.f 12 (λ e. omega (arith, e)), ne_eqb c.args.f 13 (λ e. omega (arith, e)), ne_eqb c.args.f 14 (λ e. omega (arith, e)), ne_eqb c.args.f 15 (λ e. omega (arith, e)))
