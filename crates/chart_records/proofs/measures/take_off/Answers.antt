use Rattle.chart_records.proofs.MeasureNeeds.{for_take_off}
use Rattle.chart_records.proofs.measures.take_off.Goals as goal

pub returns-in_err-left : goal.returns-in_err-left
returns-in_err-left c = search for_take_off

pub returns : goal.returns
returns c = search for_take_off
