use Rattle.rules_walk.proofs.BlockNeeds.{for_four_sound}
use Rattle.rules_walk.proofs.blocks.four_sound.Goals as goal

pub returns-then-is_date : goal.returns-then-is_date
returns-then-is_date c = search for_four_sound

pub returns-then-is_type : goal.returns-then-is_type
returns-then-is_type c = search for_four_sound

pub returns-then-is_uli : goal.returns-then-is_uli
returns-then-is_uli c = search for_four_sound

pub returns : goal.returns
returns c = search for_four_sound
