use Rattle.rules_lists.proofs.ListNeeds.{for_count_sound}
use Rattle.rules_lists.proofs.count_sound.Goals as goal

pub returns-then-sound_text : goal.returns-then-sound_text
returns-then-sound_text c = search for_count_sound

pub returns-else-sound_text : goal.returns-else-sound_text
returns-else-sound_text c = search for_count_sound
