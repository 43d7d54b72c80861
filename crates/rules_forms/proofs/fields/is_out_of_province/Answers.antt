use Rattle.rules_forms.proofs.FieldNeeds.{for_is_out_of_province}
use Rattle.rules_forms.proofs.fields.is_out_of_province.Goals as goal

pub returns-then-country-eq0 : goal.returns-then-country-eq0
returns-then-country-eq0 c = search for_is_out_of_province

pub returns-else-country-eq0 : goal.returns-else-country-eq0
returns-else-country-eq0 c = search for_is_out_of_province

pub returns-then-same : goal.returns-then-same
returns-then-same c = search for_is_out_of_province

pub returns-else-same : goal.returns-else-same
returns-else-same c = search for_is_out_of_province
