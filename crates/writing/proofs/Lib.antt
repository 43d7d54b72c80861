-- The laws of the crate, for its own proofs and for the crates above.
-- Assumes nothing.
pub mod DecimalLaws
pub mod OverLaws
pub mod OneAnswer
