-- What the crate promises beside the definitions of charts, and what its own functions answer.
-- Assumes nothing.
pub mod Reading
pub mod Inside
