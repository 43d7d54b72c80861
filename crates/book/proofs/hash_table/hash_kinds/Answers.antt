use Rattle.book.proofs.HashLaws.{for_hash_kinds}
use Rattle.book.proofs.hash_table.hash_kinds.Goals as goal

pub loop-k-init : goal.loop-k-init
loop-k-init c = search for_hash_kinds

pub loop-k-preserved : goal.loop-k-preserved
loop-k-preserved c = search for_hash_kinds
