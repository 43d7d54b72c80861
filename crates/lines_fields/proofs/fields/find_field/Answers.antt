use Rattle.lines_fields.proofs.PlaceNeeds.{for_find_field}
use Rattle.lines_fields.proofs.fields.find_field.Goals as goal

pub returns-then-f-eq0 : goal.returns-then-f-eq0
returns-then-f-eq0 c = search for_find_field

pub returns-then-file-end : goal.returns-then-file-end
returns-then-file-end c = search for_find_field

pub returns-then-file-end-ne124 : goal.returns-then-file-end-ne124
returns-then-file-end-ne124 c = search for_find_field

pub returns : goal.returns
returns c = search for_find_field
