use Rattle.chart_records.proofs.FormNeeds.{for_is_field_bytes}
use Rattle.chart_records.proofs.form.is_field_bytes.Goals as goal

pub returns : goal.returns
returns c = search for_is_field_bytes
