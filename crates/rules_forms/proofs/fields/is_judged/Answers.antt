use Rattle.rules_forms.proofs.JudgedNeeds.{for-is-judged}
use Rattle.rules_forms.proofs.fields.is_judged.Goals as goal

pub returns-in-2-f : goal.returns-in-2-f
returns-in-2-f c = search for-is-judged

pub returns-in_default-f : goal.returns-in_default-f
returns-in_default-f c = search for-is-judged

pub returns-in-2-to-3 : goal.returns-in-2-to-3
returns-in-2-to-3 c = search for-is-judged

pub returns-in_default-f-2 : goal.returns-in_default-f-2
returns-in_default-f-2 c = search for-is-judged

pub returns-in_default-f-2-2 : goal.returns-in_default-f-2-2
returns-in_default-f-2-2 c = search for-is-judged

pub returns-in_default-f-3 : goal.returns-in_default-f-3
returns-in_default-f-3 c = search for-is-judged

pub returns-in_default-f-3-2 : goal.returns-in_default-f-3-2
returns-in_default-f-3-2 c = search for-is-judged

pub returns-in-2-to-3-f : goal.returns-in-2-to-3-f
returns-in-2-to-3-f c = search for-is-judged

pub returns-in-2-to-3-f-2 : goal.returns-in-2-to-3-f-2
returns-in-2-to-3-f-2 c = search for-is-judged

pub returns-in-2-to-6 : goal.returns-in-2-to-6
returns-in-2-to-6 c = search for-is-judged

pub returns-in-2-to-6-2 : goal.returns-in-2-to-6-2
returns-in-2-to-6-2 c = search for-is-judged

pub returns-in_default-f-4 : goal.returns-in_default-f-4
returns-in_default-f-4 c = search for-is-judged

pub returns-in_default-f-4-2 : goal.returns-in_default-f-4-2
returns-in_default-f-4-2 c = search for-is-judged

pub returns-in_default-f-4-3 : goal.returns-in_default-f-4-3
returns-in_default-f-4-3 c = search for-is-judged

pub returns-in-2-to-5 : goal.returns-in-2-to-5
returns-in-2-to-5 c = search for-is-judged

pub returns-in_default-f-5 : goal.returns-in_default-f-5
returns-in_default-f-5 c = search for-is-judged

pub returns-in_default-f-5-2 : goal.returns-in_default-f-5-2
returns-in_default-f-5-2 c = search for-is-judged

pub returns-in-2-to-8 : goal.returns-in-2-to-8
returns-in-2-to-8 c = search for-is-judged

pub returns-in_default-f-6 : goal.returns-in_default-f-6
returns-in_default-f-6 c = search for-is-judged

pub returns-in_default-f-6-2 : goal.returns-in_default-f-6-2
returns-in_default-f-6-2 c = search for-is-judged

pub returns-in-2-to-4 : goal.returns-in-2-to-4
returns-in-2-to-4 c = search for-is-judged

pub returns-in_default-f-7 : goal.returns-in_default-f-7
returns-in_default-f-7 c = search for-is-judged

pub returns-in_default-f-7-2 : goal.returns-in_default-f-7-2
returns-in_default-f-7-2 c = search for-is-judged

pub returns-in_default : goal.returns-in_default
returns-in_default c = search for-is-judged
