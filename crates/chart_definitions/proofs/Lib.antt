-- The laws of the crate, for the crates above.
-- Assumes nothing.
pub mod TotalLaws
pub mod PieceLaws
pub mod TogetherLaws
pub mod LotLaws
pub mod FollowLaws
pub mod WritingOrderLaws
pub mod OrderKeptLaws
