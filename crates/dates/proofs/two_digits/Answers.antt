use Rattle.dates.proofs.NumberLaws.{for_two_digits}
use Rattle.dates.proofs.two_digits.Goals as goal

pub overflow_sub-result : goal.overflow_sub-result
overflow_sub-result c = search for_two_digits

pub returns-clause-value : goal.returns-clause-value
returns-clause-value c = search for_two_digits

pub returns-clause-upper_bound : goal.returns-clause-upper_bound
returns-clause-upper_bound c = search for_two_digits
