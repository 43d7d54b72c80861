use mathlib.Core.Path.{◌≡◌}
use lib.ListN.{drop}
use Rattle.chart_records.specs.Inside.{form_of, form_in}
use Rattle.chart_records.proofs.form.form_of.Given as goal

abbrev pub invariant-loop-b : goal.invariant-loop-b
invariant-loop-b l = form_of l.bytes ≡ form_in l.least l.most (drop l.b-index l.bytes)
