-- What a reader must believe of dates.
-- Assumes nothing.
pub mod Dates
