use Rattle.chart_records.proofs.FormNeeds.{for_is_right_at}
use Rattle.chart_records.proofs.form.is_right_at.Goals as goal

pub returns-then-chart-from : goal.returns-then-chart-from
returns-then-chart-from c = search for_is_right_at

pub returns-then-may_follow : goal.returns-then-may_follow
returns-then-may_follow c = search for_is_right_at

pub returns : goal.returns
returns c = search for_is_right_at
