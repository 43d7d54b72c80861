use Rattle.blanks.proofs.BlankLaws.{for_last_blanks}
use Rattle.blanks.proofs.last_blanks.Goals as goal

pub loop-i-preserved : goal.loop-i-preserved
loop-i-preserved c = search for_last_blanks

pub returns-then-text-i-ne32-clause-text_value : goal.returns-then-text-i-ne32-clause-text_value
returns-then-text-i-ne32-clause-text_value c = search for_last_blanks

pub returns-clause-text_value : goal.returns-clause-text_value
returns-clause-text_value c = search for_last_blanks
