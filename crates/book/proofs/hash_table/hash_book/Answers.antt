use Rattle.book.proofs.HashLaws.{for_hash_book}
use Rattle.book.proofs.hash_table.hash_book.Goals as goal

pub returns-then-buffer-n : goal.returns-then-buffer-n
returns-then-buffer-n c = search for_hash_book

pub returns : goal.returns
returns c = search for_hash_book
