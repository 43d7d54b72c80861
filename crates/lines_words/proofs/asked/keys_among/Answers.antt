use Rattle.lines_words.proofs.AskedNeeds.{for_keys_among}
use Rattle.lines_words.proofs.asked.keys_among.Goals as goal

pub loop-e-preserved : goal.loop-e-preserved
loop-e-preserved c = search for_keys_among

pub returns-then-not-has_key : goal.returns-then-not-has_key
returns-then-not-has_key c = search for_keys_among

pub returns : goal.returns
returns c = search for_keys_among
