-- A working definition: which answers have numbers of 32 bits. No public contract rests on this page.
-- Assumes nothing.
use Rattle.std.specs.Prelude.{Ok, Err, ◌<◌}
use Rattle.answers.specs.declared.Refusal.TheVariants.{Date, Long, Book, Ledger, Shape as BadShape, Findings, Full}
use Rattle.answers.specs.Answers.{Answer}

-- the numbers of the answer have 32 bits
unfoldable pub Narrow : Answer → Type 0
Narrow (Ok a) = (a.added < 4294967296) × (a.changed < 4294967296) × (a.deleted < 4294967296) × (a.not_immunized < 4294967296)
Narrow (Err Date) = Unit {0}
Narrow (Err Long) = Unit {0}
Narrow (Err Book) = Unit {0}
Narrow (Err Ledger) = Unit {0}
Narrow (Err (BadShape fault)) = fault.line < 4294967296
Narrow (Err (Findings n)) = n < 4294967296
Narrow (Err Full) = Unit {0}
