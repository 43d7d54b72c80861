use Rattle.chart_records.proofs.GivenNeeds.{for_fields_end}
use Rattle.chart_records.proofs.given.fields_end.Goals as goal

pub returns-then-is_field_bytes : goal.returns-then-is_field_bytes
returns-then-is_field_bytes c = search for_fields_end

pub returns : goal.returns
returns c = search for_fields_end
