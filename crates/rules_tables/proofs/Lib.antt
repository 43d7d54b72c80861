-- What the functions' own needs ask.
-- Assumes nothing.
mod CaseNeeds
mod TableNeeds
-- No second answer
mod OneAnswer
