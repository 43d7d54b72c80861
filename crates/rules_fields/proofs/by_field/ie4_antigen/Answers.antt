use Rattle.rules_fields.proofs.FieldNeeds.{for_parts}
use Rattle.rules_fields.proofs.by_field.ie4_antigen.Goals as goal

pub rule11_pair-b-requires : goal.rule11_pair-b-requires
rule11_pair-b-requires c = search for_parts

pub returns : goal.returns
returns c = search for_parts
