-- The laws of the crate, for its own proofs and for the crates above.
-- Assumes nothing.
pub mod Small
pub mod Facts
pub mod Members
pub mod Suffix
pub mod OrderAlgebra
pub mod OrderLaws
pub mod Decisions
pub mod SearchLaws
pub mod PadLaws
pub mod DigitLaws
pub mod KeyLaws
pub mod Padding
pub mod NumberLaws
pub mod OverLaws
pub mod OneAnswer
