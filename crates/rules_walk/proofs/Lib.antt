-- The laws of the crate, for its own proofs and for the crates above.
-- Assumes nothing.
pub mod PassLaws
pub mod NamedLaws
pub mod SizeLaws
pub mod TypeLaws
pub mod IndexLaws
pub mod OnceLaws
pub mod NotedLaws
pub mod StartLaws
pub mod CountLaws
pub mod BlockNeeds
pub mod IndexNeeds
-- What the functions' own needs ask
mod PartNeeds
mod RepeatNeeds
-- No second answer
mod OneAnswer
