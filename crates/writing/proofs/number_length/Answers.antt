use Rattle.writing.proofs.DecimalLaws.{for_number_length}
use Rattle.writing.proofs.number_length.Goals as goal

pub loop-rest-preserved : goal.loop-rest-preserved
loop-rest-preserved c = search for_number_length

pub returns : goal.returns
returns c = search for_number_length
