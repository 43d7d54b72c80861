use Rattle.book.proofs.HashLaws.{for_hash_entries}
use Rattle.book.proofs.hash_table.hash_entries.Goals as goal

pub loop-i-init : goal.loop-i-init
loop-i-init c = search for_hash_entries

pub loop-i-preserved : goal.loop-i-preserved
loop-i-preserved c = search for_hash_entries

pub returns : goal.returns
returns c = search for_hash_entries
