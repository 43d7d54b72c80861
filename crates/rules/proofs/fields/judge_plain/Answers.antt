use Rattle.rules.proofs.FieldNeeds.{for_judge_plain}
use Rattle.rules.proofs.fields.judge_plain.Goals as goal

pub returns : goal.returns
returns c = search for_judge_plain
