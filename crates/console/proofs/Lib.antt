-- What the functions' own needs ask.
-- Assumes nothing.
mod ProgramNeeds
-- No second answer
mod OneAnswer
