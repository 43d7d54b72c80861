use Rattle.lines_fields.proofs.AtNeeds.{for_field_end}
use Rattle.lines_fields.proofs.fields.field_end.Goals as goal

pub loop-i-init : goal.loop-i-init
loop-i-init c = search for_field_end

pub returns-then-b-eq124 : goal.returns-then-b-eq124
returns-then-b-eq124 c = search for_field_end

pub returns-then-e-ne0 : goal.returns-then-e-ne0
returns-then-e-ne0 c = search for_field_end

pub loop-i-preserved : goal.loop-i-preserved
loop-i-preserved c = search for_field_end

pub returns : goal.returns
returns c = search for_field_end
