-- The laws of the crate, for the crate above and for its own proofs.
-- Assumes nothing.
pub mod LookLaws
-- What the functions' own needs ask
mod CodeNeeds
mod RecordNeeds
mod FieldNeeds
-- No second answer
mod OneAnswer
