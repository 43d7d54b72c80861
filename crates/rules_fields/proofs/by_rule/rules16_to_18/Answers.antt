use Rattle.rules_fields.proofs.RecordNeeds.{for_ledger}
use Rattle.rules_fields.proofs.by_rule.rules16_to_18.Goals as goal

pub returns-then-same : goal.returns-then-same
returns-then-same c = search for_ledger

pub returns-else-same : goal.returns-else-same
returns-else-same c = search for_ledger

pub returns-then-same-2 : goal.returns-then-same-2
returns-then-same-2 c = search for_ledger

pub returns-then-same-3 : goal.returns-then-same-3
returns-then-same-3 c = search for_ledger

pub returns-else-same-3 : goal.returns-else-same-3
returns-else-same-3 c = search for_ledger

pub returns-else-inb : goal.returns-else-inb
returns-else-inb c = search for_ledger
