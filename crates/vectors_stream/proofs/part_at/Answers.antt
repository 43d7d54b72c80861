use Rattle.vectors_stream.proofs.PartNeeds.{for_parts}
use Rattle.vectors_stream.proofs.part_at.Goals as goal

pub returns-then-n-lt4 : goal.returns-then-n-lt4
returns-then-n-lt4 c = search for_parts

pub returns-then-n-at : goal.returns-then-n-at
returns-then-n-at c = search for_parts

pub returns-then-n-body : goal.returns-then-n-body
returns-then-n-body c = search for_parts

pub returns : goal.returns
returns c = search for_parts
