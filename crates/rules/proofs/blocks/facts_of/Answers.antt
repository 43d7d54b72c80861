use Rattle.rules.proofs.LookNeeds.{for_facts_of}
use Rattle.rules.proofs.blocks.facts_of.Goals as goal

pub returns-then-b : goal.returns-then-b
returns-then-b c = search for_facts_of

pub returns : goal.returns
returns c = search for_facts_of
