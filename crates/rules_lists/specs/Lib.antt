-- What is asked of each of some lines, and what is gathered of them.
-- Assumes nothing.
pub mod Among
pub mod Entries
pub mod Inside
