use Rattle.ledger.proofs.FormLaws.{for_sound_slots}
use Rattle.ledger.proofs.form.sound_slots.Goals as goal
use Rattle.ledger.proofs.form.sound_slots.Goals.{then-is_live_slot, else-is_live_slot}

pub returns-then-not-is_sound_at : goal.returns-then-not-is_sound_at
returns-then-not-is_sound_at c = search for_sound_slots

pub loop-i-preserved : goal.loop-i-preserved
loop-i-preserved c = elim c.if-is_live_slot.branch [ then-is_live_slot w ↦ search for_sound_slots | else-is_live_slot w ↦ search for_sound_slots ]

pub returns : goal.returns
returns c = search for_sound_slots
