use Rattle.lines_words.proofs.HashNeeds.{for_event_hash}
use Rattle.lines_words.proofs.hashes.event_hash.Goals as goal

pub returns-clause-value : goal.returns-clause-value
returns-clause-value c = search for_event_hash
