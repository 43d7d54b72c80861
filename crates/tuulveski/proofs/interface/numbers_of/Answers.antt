use Rattle.answers.specs.Answers.{numbers_of}
use Rattle.tuulveski.specs.Interface.{numbers_in}
use Rattle.tuulveski.specs.Inside.{Narrow}
use Rattle.tuulveski.proofs.InterfaceNeeds.{for_numbers_of}
use Rattle.tuulveski.proofs.interface.numbers_of.Goals as goal

pub narrow-requires : goal.narrow-requires
narrow-requires c = search for_numbers_of

pub narrow-requires-in-Ok : goal.narrow-requires-in-Ok
narrow-requires-in-Ok c = search for_numbers_of

pub narrow-requires-in-Ok-2 : goal.narrow-requires-in-Ok-2
narrow-requires-in-Ok-2 c = search for_numbers_of

pub narrow-requires-in-Ok-3 : goal.narrow-requires-in-Ok-3
narrow-requires-in-Ok-3 c = search for_numbers_of

pub narrow-requires-in-Err-Shape : goal.narrow-requires-in-Err-Shape
unfolding Narrow
narrow-requires-in-Err-Shape c = search for_numbers_of

pub narrow-requires-in-Err-Findings : goal.narrow-requires-in-Err-Findings
unfolding Narrow
narrow-requires-in-Err-Findings c = search for_numbers_of

pub returns-in-Ok : goal.returns-in-Ok
returns-in-Ok c = search for_numbers_of

pub returns-in-Err-Date : goal.returns-in-Err-Date
unfolding numbers_in numbers_of
returns-in-Err-Date c = search for_numbers_of

pub returns-in-Err-Long : goal.returns-in-Err-Long
unfolding numbers_in numbers_of
returns-in-Err-Long c = search for_numbers_of

pub returns-in-Err-Book : goal.returns-in-Err-Book
unfolding numbers_in numbers_of
returns-in-Err-Book c = search for_numbers_of

pub returns-in-Err-Ledger : goal.returns-in-Err-Ledger
unfolding numbers_in numbers_of
returns-in-Err-Ledger c = search for_numbers_of

pub returns-in-Err-Shape : goal.returns-in-Err-Shape
unfolding numbers_in numbers_of
returns-in-Err-Shape c = search for_numbers_of

pub returns-in-Err-Findings : goal.returns-in-Err-Findings
unfolding numbers_in numbers_of
returns-in-Err-Findings c = search for_numbers_of

pub returns-in-Err-Full : goal.returns-in-Err-Full
unfolding numbers_in numbers_of
returns-in-Err-Full c = search for_numbers_of
