-- What writing answers, as the numbers of document 02.
-- Assumes nothing.
use Rattle.std.specs.Prelude.{ℕ, Result, Ok, Err}
use Rattle.chart.specs.declared.Refusal.{Refusal}
use Rattle.chart.specs.declared.Refusal.TheVariants.{Record, Room}
use Rattle.chart_definitions.specs.Submissions.{RECORD, ROOM}

abbrev pub number_of : Refusal → ℕ
number_of Record = RECORD
number_of Room = ROOM

-- the answer: 0 of a file that is written
abbrev pub answer_of : Result ℕ Refusal → ℕ
answer_of (Ok length) = 0
answer_of (Err refusal) = number_of refusal

-- how long the file is, 0 where it is refused
abbrev pub length_of : Result ℕ Refusal → ℕ
length_of (Ok length) = length
length_of (Err refusal) = 0
