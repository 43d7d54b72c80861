use Rattle.chart_records.proofs.FormNeeds.{for_is_chart}
use Rattle.chart_records.proofs.form.is_chart.Goals as goal

pub loop-at-init : goal.loop-at-init
loop-at-init c = search for_is_chart

pub loop-at-smaller : goal.loop-at-smaller
loop-at-smaller c = search for_is_chart

pub loop-at-preserved : goal.loop-at-preserved
loop-at-preserved c = search for_is_chart

pub returns-else-is_right_at : goal.returns-else-is_right_at
returns-else-is_right_at c = search for_is_chart

pub returns : goal.returns
returns c = search for_is_chart
