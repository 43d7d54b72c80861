use Rattle.lines_words.proofs.HashNeeds.{for_hash_part}
use Rattle.lines_words.proofs.hashes.hash_part.Goals as goal

pub returns-clause-value : goal.returns-clause-value
returns-clause-value c = search for_hash_part
