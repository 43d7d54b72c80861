use Rattle.rules.proofs.ReadNeeds.{for_see}
use Rattle.rules.proofs.look.see.Goals as goal

pub block_of-b-requires-clause-read_in : goal.block_of-b-requires-clause-read_in
block_of-b-requires-clause-read_in c = search for_see

pub block_of-b-requires-clause-k_value : goal.block_of-b-requires-clause-k_value
block_of-b-requires-clause-k_value c = search for_see

pub facts_of-facts-requires : goal.facts_of-facts-requires
facts_of-facts-requires c = search for_see

pub returns : goal.returns
returns c = search for_see
