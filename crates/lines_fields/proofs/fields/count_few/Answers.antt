use Rattle.lines_fields.proofs.FieldNeeds.{for_count_few}
use Rattle.lines_fields.proofs.fields.count_few.Goals as goal
use Rattle.lines_fields.proofs.fields.count_few.Goals.{then-b-eq124, else-b-eq124}

pub loop-b-preserved : goal.loop-b-preserved
loop-b-preserved c =
    elim c.if-b-eq124.branch [ then-b-eq124 w ↦ search for_count_few | else-b-eq124 w ↦ search for_count_few ]

pub returns : goal.returns
returns c = search for_count_few
