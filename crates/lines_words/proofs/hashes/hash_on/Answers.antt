use Rattle.lines_words.proofs.HashNeeds.{for_hash_on}
use Rattle.lines_words.proofs.hashes.hash_on.Goals as goal

pub loop-b-preserved : goal.loop-b-preserved
loop-b-preserved c = search for_hash_on

pub returns-clause-value : goal.returns-clause-value
returns-clause-value c = search for_hash_on
