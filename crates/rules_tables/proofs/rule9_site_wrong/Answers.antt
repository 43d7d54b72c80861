use Rattle.rules_tables.proofs.TableNeeds.{for_wrong}
use Rattle.rules_tables.proofs.rule9_site_wrong.Goals as goal

pub returns-then-without : goal.returns-then-without
returns-then-without c = search for_wrong

pub returns : goal.returns
returns c = search for_wrong
