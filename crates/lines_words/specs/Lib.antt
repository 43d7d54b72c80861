-- Words of a file by their places, in the order of a key.
-- Assumes nothing.
pub mod Words
pub mod Inside
