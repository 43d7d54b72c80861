use Rattle.book.proofs.HashLaws.{for_hash_entry}
use Rattle.book.proofs.hash_table.hash_entry.Goals as goal

pub returns : goal.returns
returns c = search for_hash_entry
