use Rattle.lines.proofs.ByteNeeds.{for_no_stray}
use Rattle.lines.proofs.bytes.no_stray.Goals as goal

pub returns-then-file-eq0 : goal.returns-then-file-eq0
returns-then-file-eq0 c = search for_no_stray

pub loop-i-preserved : goal.loop-i-preserved
loop-i-preserved c = search for_no_stray

pub returns : goal.returns
returns c = search for_no_stray
