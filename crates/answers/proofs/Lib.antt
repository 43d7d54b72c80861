-- What the functions' own needs ask
mod SettleNeeds
mod SettledNeeds
mod StepNeeds
mod BufferNeeds
-- No second answer
mod OneSettling
mod OneAnswer
