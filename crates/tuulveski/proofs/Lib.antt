pub mod NumberLaws
pub mod CDemandLaws
pub mod PassingLaws
-- What the functions' own needs ask
mod InterfaceNeeds
-- No second answer
mod OneAnswer
