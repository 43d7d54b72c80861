-- Laws for the crates above
pub mod PartLaws
pub mod ShapeLaws
-- Of the crate below
pub use Rattle.lines_fields.proofs.LineLaws
pub use Rattle.lines_fields.proofs.FieldLaws
pub use Rattle.lines_fields.proofs.MarkLaws
-- What the functions' own needs ask
mod KindNeeds
mod PlainLaws
mod ByteNeeds
mod FaultNeeds
-- What docs/TRACE names
mod CauseLaws
-- No second answer
mod OneAnswer
