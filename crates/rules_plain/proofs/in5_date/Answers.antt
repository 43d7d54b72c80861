use Rattle.rules_plain.proofs.PlainNeeds.{in5_form}
use Rattle.rules_plain.proofs.in5_date.Goals as goal

pub date_field-requires : goal.date_field-requires
date_field-requires c = in5_form c.args.t.now
