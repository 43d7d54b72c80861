use Rattle.rules.proofs.AgainNeeds.{for_rule12_scanned}
use Rattle.rules.proofs.antigens.rule12_scanned.Goals as goal

pub returns-then-rule12_any_antigen : goal.returns-then-rule12_any_antigen
returns-then-rule12_any_antigen c = search for_rule12_scanned

pub returns-else-rule12_any_antigen : goal.returns-else-rule12_any_antigen
returns-else-rule12_any_antigen c = search for_rule12_scanned
