use Rattle.rules_plain.proofs.PlainNeeds.{ii6_form}
use Rattle.rules_plain.proofs.ii6_date.Goals as goal

pub date_field-requires : goal.date_field-requires
date_field-requires c = ii6_form c.args.t.now
