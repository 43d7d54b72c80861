use Rattle.rules_walk.proofs.RepeatNeeds.{for_note_repeats}
use Rattle.rules_walk.proofs.repeats.note_repeats.Goals as goal

pub loop-p-init : goal.loop-p-init
loop-p-init c = search for_note_repeats

pub loop-p-preserved : goal.loop-p-preserved
loop-p-preserved c = search for_note_repeats

pub returns-after-loop-p : goal.returns-after-loop-p
returns-after-loop-p c = search for_note_repeats

pub returns-in_default : goal.returns-in_default
returns-in_default c = search for_note_repeats
