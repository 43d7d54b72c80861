use Rattle.book.proofs.HashLaws.{for_hash}
use Rattle.book.proofs.hash_table.hash.Goals as goal

pub loop-i-init : goal.loop-i-init
loop-i-init c = search for_hash

pub loop-i-preserved : goal.loop-i-preserved
loop-i-preserved c = search for_hash
