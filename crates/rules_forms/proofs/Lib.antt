-- The laws of the crate, for the crates above and for its own proofs.
-- Assumes nothing.
pub mod ClassLaws
pub mod TextLaws
pub mod FieldLaws
pub mod SoundLaws
-- What the functions' own needs ask
mod ClassNeeds
mod ValueNeeds
mod FormNeeds
mod DosageNeeds
mod JudgedNeeds
mod FieldNeeds
-- No second answer
mod OneClassAnswer
mod OneTextAnswer
mod OneFieldAnswer
