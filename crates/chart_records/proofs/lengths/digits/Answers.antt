use Rattle.chart_records.proofs.LengthNeeds.{for_digits}
use Rattle.chart_records.proofs.lengths.digits.Goals as goal

pub returns-clause-upper_bound : goal.returns-clause-upper_bound
returns-clause-upper_bound c = search for_digits
