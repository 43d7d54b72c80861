-- The index of blocks, as the contracts cite it, and what the crate works by.
-- Assumes nothing.
pub mod Firsts
pub mod Repeats
pub mod Inside
