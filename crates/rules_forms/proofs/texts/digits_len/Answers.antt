use Rattle.rules_forms.proofs.DosageNeeds.{for_digits_on, for_digits_len}
use Rattle.rules_forms.proofs.texts.digits_len.Goals as goal

pub loop-i-preserved : goal.loop-i-preserved
loop-i-preserved c = search for_digits_on

pub returns-in-loop-i-clause-value : goal.returns-in-loop-i-clause-value
returns-in-loop-i-clause-value c = search for_digits_len

pub returns-clause-value : goal.returns-clause-value
returns-clause-value c = search for_digits_len
