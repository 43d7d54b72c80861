-- The numbers of what writing answers, and working definitions of the writer (Inside).
-- Assumes nothing.
pub mod Inside
pub mod Written
