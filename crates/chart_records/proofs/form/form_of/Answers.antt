use Rattle.chart_records.proofs.FormNeeds.{for_form_of}
use Rattle.chart_records.proofs.form.form_of.Goals as goal

pub loop-b-init : goal.loop-b-init
loop-b-init c = search for_form_of

pub loop-b-preserved : goal.loop-b-preserved
loop-b-preserved c = search for_form_of

pub returns-then-least-lt32 : goal.returns-then-least-lt32
returns-then-least-lt32 c = search for_form_of

pub returns-then-most-gt126 : goal.returns-then-most-gt126
returns-then-most-gt126 c = search for_form_of

pub returns-then-most-gt32 : goal.returns-then-most-gt32
returns-then-most-gt32 c = search for_form_of

pub returns : goal.returns
returns c = search for_form_of
