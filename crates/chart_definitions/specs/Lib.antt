-- What a reader must believe of charts and of the files that are written from them, in the order and words of document 02, request 3.
-- Assumes nothing.
pub mod Charts
pub mod Lots
pub mod Submissions
