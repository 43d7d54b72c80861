-- The claims are proved here.
-- Assumes nothing.
mod FieldLaws
mod LineLaws
mod RightLaws
mod AlikeLaws
mod NeighbourLaws
mod EventLines
mod BlockLaws
mod DecimalLaws
mod NumberFindings
pub mod ReadLaws
pub mod ShapeLaws
pub mod FindingLaws
pub mod Cases
pub mod AnswerLaws
pub mod ArrangeLaws
pub mod OneBlockLaws
pub mod PatientLaws
pub mod WrittenLaws
