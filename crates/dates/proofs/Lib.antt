-- The laws of the crate, for its own proofs and for the crates above.
-- Assumes nothing.
pub mod NumberLaws
pub mod DateLaws
pub mod OneAnswer
