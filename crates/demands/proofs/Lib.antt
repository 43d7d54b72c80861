pub mod Cases
pub mod AnswerLaws
pub mod FileLaws
pub mod RunLaws
pub mod DemandLaws
pub mod CodeLaws
pub mod FirstOnlyLaws
