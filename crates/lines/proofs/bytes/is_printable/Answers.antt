use Rattle.lines.proofs.ByteNeeds.{for_is_printable}
use Rattle.lines.proofs.bytes.is_printable.Goals as goal

pub returns : goal.returns
returns c = search for_is_printable
