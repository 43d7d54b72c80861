use Rattle.house.proofs.NumberLaws.{for_numbers, number_there}
use Rattle.house.proofs.numbers.number_at.Goals as goal

pub returns-in_default : goal.returns-in_default
returns-in_default c = search for_numbers

pub returns-in-Some-first_chunk : goal.returns-in-Some-first_chunk
returns-in-Some-first_chunk c =
    let h = c.in-Some.ensures.lookup.0 in
    let k = c.in-Some-first_chunk.ensures.cases in
    number_there _ _ c.in-Some.rest.now h.3 c.in-Some-first_chunk.bytes.now c.from_le_bytes.result h.2 k.enough k.same c.from_le_bytes.ensures

pub returns-in-None : goal.returns-in-None
returns-in-None c = search for_numbers
