use Rattle.rules_forms.proofs.ValueNeeds.{for_value}
use Rattle.rules_forms.proofs.texts.value.Goals as goal

pub returns-then-t-gt9 : goal.returns-then-t-gt9
returns-then-t-gt9 c = search for_value

pub loop-b-init : goal.loop-b-init
loop-b-init c = search for_value

pub overflow_sub-d : goal.overflow_sub-d
overflow_sub-d c = search for_value

pub overflow_mul-v : goal.overflow_mul-v
overflow_mul-v c = search for_value

pub overflow_add-v : goal.overflow_add-v
overflow_add-v c = search for_value

pub loop-b-preserved : goal.loop-b-preserved
loop-b-preserved c = search for_value

pub returns-else-is_digit : goal.returns-else-is_digit
returns-else-is_digit c = search for_value

pub returns : goal.returns
returns c = search for_value
