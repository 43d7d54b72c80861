use Rattle.book.proofs.FormLaws.{for_parts}
use Rattle.book.proofs.forms.second_ok.Goals as goal

pub returns-in-7 : goal.returns-in-7
returns-in-7 c = search for_parts

pub returns-in-8 : goal.returns-in-8
returns-in-8 c = search for_parts

pub returns-in_default : goal.returns-in_default
returns-in_default c = search for_parts
