-- What a reader must believe of texts and numbers written into an area.
-- Assumes nothing.
pub mod Writing
