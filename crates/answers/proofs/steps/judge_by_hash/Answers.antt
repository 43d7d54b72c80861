use Rattle.answers.proofs.BufferNeeds.{for_judge_by_hash}
use Rattle.answers.proofs.steps.judge_by_hash.Goals as goal

pub lend_index_buffer-requires-clause-ready : goal.lend_index_buffer-requires-clause-ready
lend_index_buffer-requires-clause-ready c = search for_judge_by_hash

pub returns : goal.returns
returns c = search for_judge_by_hash
