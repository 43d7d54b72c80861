-- The laws of the crate, for its own proofs and for the crates above.
-- Assumes nothing.
pub mod BlankLaws
pub mod TrimLaws
pub mod OneAnswer
