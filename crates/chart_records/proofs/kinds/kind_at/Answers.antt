use Rattle.chart_records.proofs.KindNeeds.{for_kind_at}
use Rattle.chart_records.proofs.kinds.kind_at.Goals as goal

pub returns : goal.returns
returns c = search for_kind_at
