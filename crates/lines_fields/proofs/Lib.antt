-- Laws for the crates above
pub mod CutLaws
pub mod LineLaws
pub mod FieldLaws
pub mod PositionLaws
pub mod MarkLaws
-- What the functions' own needs ask
mod LineNeeds
mod FieldNeeds
mod AtNeeds
mod PlaceNeeds
mod MarkNeeds
mod SpanNeeds
-- No second answer
mod OneAnswer
