-- The laws of the crate.
-- Assumes nothing.
mod AreaNeeds
mod RecordNeeds
mod LineNeeds
mod GoingLaws
mod RunNeeds
mod PlaceLaws
mod EventLaws
mod PatientLaws
mod FirstLaws
mod LotLaws
mod BoundLaws
mod LotNeeds
mod ArrangeNeeds
mod EventNeeds
mod HintNeeds
mod PatientNeeds
mod OrderNeeds
mod FileNeeds
mod WriteNeeds
pub mod OneAnswer
