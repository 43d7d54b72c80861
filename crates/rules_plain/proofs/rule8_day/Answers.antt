use Rattle.rules_plain.proofs.PlainNeeds.{for_rule8_day}
use Rattle.rules_plain.proofs.rule8_day.Goals as goal

pub returns-then-today-n : goal.returns-then-today-n
returns-then-today-n c = search for_rule8_day

pub returns-then-n-born : goal.returns-then-n-born
returns-then-n-born c = search for_rule8_day

pub returns-else-n-born : goal.returns-else-n-born
returns-else-n-born c = search for_rule8_day
