use Rattle.rules_tables.proofs.TableNeeds.{for_reason_read}
use Rattle.rules_tables.proofs.reason_read.Goals as goal

pub returns-then-t-eq0 : goal.returns-then-t-eq0
returns-then-t-eq0 c = search for_reason_read

pub returns-then-t-eq1 : goal.returns-then-t-eq1
returns-then-t-eq1 c = search for_reason_read

pub returns-then-t-eq32 : goal.returns-then-t-eq32
returns-then-t-eq32 c = search for_reason_read

pub returns : goal.returns
returns c = search for_reason_read
