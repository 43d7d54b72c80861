-- The laws of the crate, for its own proofs and for the crates above.
-- Assumes nothing.
pub mod OrderedLaws
pub mod RunLaws
pub mod FoundLaws
pub mod EventLaws
pub mod PutLaws
mod BeforeLaws
mod UpLaws
-- No second answer
pub mod OneAnswer
-- What the functions' own needs ask
mod EventNeeds
mod HashNeeds
mod PlainNeeds
mod KeyNeeds
mod SortNeeds
mod PutNeeds
mod AskedNeeds
mod ApartNeeds
