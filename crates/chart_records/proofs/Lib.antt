-- Laws for the crates above
pub mod GivenLaws
pub mod ChartLaws
pub mod LengthLaws
pub mod NoteLaws
-- What the functions' own needs ask
mod KindNeeds
mod FormNeeds
mod LengthNeeds
mod GivenNeeds
mod LineNeeds
mod NoteNeeds
mod MeasureNeeds
-- No second answer
mod OneAnswer
