use Rattle.rules_tables.proofs.CaseNeeds.{for_is_site}
use Rattle.rules_tables.proofs.sites.is_site.Goals as goal

pub returns-then-is_arm : goal.returns-then-is_arm
returns-then-is_arm c = search for_is_site

pub returns-then-is_leg : goal.returns-then-is_leg
returns-then-is_leg c = search for_is_site

pub returns-then-is_gluteal : goal.returns-then-is_gluteal
returns-then-is_gluteal c = search for_is_site

pub returns : goal.returns
returns c = search for_is_site
