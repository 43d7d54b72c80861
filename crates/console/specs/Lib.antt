-- What the program answers.
-- Assumes nothing.
pub mod Program
