use Rattle.rules.proofs.FieldNeeds.{for_day_until}
use Rattle.rules.proofs.fields.day_until.Goals as goal

pub returns : goal.returns
returns c = search for_day_until
