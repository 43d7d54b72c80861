use Rattle.rules_fields.proofs.CodeNeeds.{for_code_field}
use Rattle.rules_fields.proofs.codes.code_field.Goals as goal

pub returns-then-r-ne0 : goal.returns-then-r-ne0
returns-then-r-ne0 c = search for_code_field

pub returns-then-t-eq0 : goal.returns-then-t-eq0
returns-then-t-eq0 c = search for_code_field

pub returns : goal.returns
returns c = search for_code_field
