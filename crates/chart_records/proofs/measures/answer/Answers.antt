use Rattle.chart_records.proofs.MeasureNeeds.{for_answer}
use Rattle.chart_records.proofs.measures.answer.Goals as goal

pub returns-in_default : goal.returns-in_default
returns-in_default c = search for_answer

pub returns-then-left-digits : goal.returns-then-left-digits
returns-then-left-digits c = search for_answer

pub returns-then-right : goal.returns-then-right
returns-then-right c = search for_answer

pub returns : goal.returns
returns c = search for_answer
