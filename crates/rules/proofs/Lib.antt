-- The laws of the crate, for its own proofs and for the crates above.
-- Assumes nothing.
-- What is kept of a list of findings
pub mod KeepLaws
-- The rules at a field
pub mod PlacedLaws
pub mod Collapse
pub mod AtLaws
pub mod BlankLaws
pub mod RuleLaws
pub mod ReadLaws
pub mod RepeatLaws
pub mod SettingLaws
-- The walk over the lines
pub mod WalkLaws
pub mod SeenLaws
pub mod StartLaws
pub mod StepLaws
pub mod AnswerLaws
pub mod ViewLaws
pub mod UnderLaws
-- What the functions' own needs ask
mod EmitNeeds
mod ToldLaws
mod LowestLaws
mod CodeLaws
mod ReasonLaws
mod FieldNeeds
mod HeadNeeds
mod VaccineNeeds
mod LastNeeds
mod LineNeeds
mod LookNeeds
mod ReadNeeds
mod WalkNeeds
mod MadeNeeds
mod RoomNeeds
mod AgainNeeds
mod SetNeeds
mod QuestionNeeds
mod TurnNeeds
mod GatherNeeds
mod PassNeeds
mod JudgeNeeds
-- No second answer
mod OneAnswer
-- Of the crates below
pub use Rattle.rules_definitions.proofs.FindingLaws
pub use Rattle.rules_definitions.proofs.AreaLaws
pub use Rattle.rules_definitions.proofs.BlockLaws
pub use Rattle.rules_definitions.proofs.CleanLaws
pub use Rattle.rules_walk.proofs.PassLaws
pub use Rattle.rules_walk.proofs.SizeLaws
pub use Rattle.rules_walk.proofs.TypeLaws
pub use Rattle.rules_walk.proofs.CountLaws
