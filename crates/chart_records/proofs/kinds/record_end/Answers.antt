use Rattle.chart_records.proofs.KindNeeds.{for_record_end}
use Rattle.chart_records.proofs.kinds.record_end.Goals as goal

pub returns-then-at-end : goal.returns-then-at-end
returns-then-at-end c = search for_record_end

pub returns : goal.returns
returns c = search for_record_end
