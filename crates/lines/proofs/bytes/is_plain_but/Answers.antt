use Rattle.lines.proofs.ByteNeeds.{for_is_plain_but}
use Rattle.lines.proofs.bytes.is_plain_but.Goals as goal

pub loop-b-preserved : goal.loop-b-preserved
loop-b-preserved c = search for_is_plain_but

pub returns : goal.returns
returns c = search for_is_plain_but
