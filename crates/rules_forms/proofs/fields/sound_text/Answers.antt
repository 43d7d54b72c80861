use Rattle.rules_forms.proofs.FieldNeeds.{for_sound_text}
use Rattle.rules_forms.proofs.fields.sound_text.Goals as goal

pub returns : goal.returns
returns c = search for_sound_text
