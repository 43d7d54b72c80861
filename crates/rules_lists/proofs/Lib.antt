-- The laws of the crate, for the crates above and for its own proofs.
-- Assumes nothing.
pub mod ListLaws
pub mod EntryLaws
-- What the functions' own needs ask
pub mod StepNeeds
mod ListNeeds
mod EntryNeeds
-- What the laws on entries rest on
mod EntryWalk
mod EntryWords
mod EntryBetween
-- No second answer
mod OneAnswer
