mod PartNeeds
mod OneAnswer
