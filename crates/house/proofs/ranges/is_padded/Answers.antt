use Rattle.house.proofs.PadLaws.{for_is_padded}
use Rattle.house.proofs.ranges.is_padded.Goals as goal
use Rattle.house.proofs.ranges.is_padded.Goals.{then-is_empty-via-then-is_empty, then-is_empty-via-else-is_empty+then-text-eq32}

pub returns-then-is_empty : goal.returns-then-is_empty
returns-then-is_empty c =
    elim c.then-is_empty.branch [ then-is_empty-via-then-is_empty w ↦ search for_is_padded | then-is_empty-via-else-is_empty+then-text-eq32 w ↦ search for_is_padded ]

pub returns-then-all_within : goal.returns-then-all_within
returns-then-all_within c = search for_is_padded

pub returns-else-all_within : goal.returns-else-all_within
returns-else-all_within c = search for_is_padded
