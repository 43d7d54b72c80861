use Rattle.lines.proofs.ByteNeeds.{for_is_plain}
use Rattle.lines.proofs.bytes.is_plain.Goals as goal

pub returns-then-file-end-ne13 : goal.returns-then-file-end-ne13
returns-then-file-end-ne13 c = search for_is_plain

pub returns-then-no_stray : goal.returns-then-no_stray
returns-then-no_stray c = search for_is_plain
