use Rattle.lines_words.proofs.HashNeeds.{for_hash_padded}
use Rattle.lines_words.proofs.hashes.hash_padded.Goals as goal

pub overflow_sub-w : goal.overflow_sub-w
overflow_sub-w c = search for_hash_padded

pub returns-clause-value : goal.returns-clause-value
returns-clause-value c = search for_hash_padded
