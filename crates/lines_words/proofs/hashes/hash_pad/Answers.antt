use Rattle.lines_words.proofs.HashNeeds.{for_hash_pad}
use Rattle.lines_words.proofs.hashes.hash_pad.Goals as goal

pub loop-preserved : goal.loop-preserved
loop-preserved c = search for_hash_pad

pub returns-clause-value : goal.returns-clause-value
returns-clause-value c = search for_hash_pad
