-- What a reader must believe of the code book; Inside is for the crate's own functions.
-- Assumes nothing.
pub mod Book
pub mod LookUp
pub mod Inside
