-- The laws of the crate, for the crates above and for its own proofs.
-- Assumes nothing.
pub mod PlainLaws
-- What the functions' own needs ask
mod PlainNeeds
-- No second answer
mod OneAnswer
