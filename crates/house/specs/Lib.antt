-- What a reader must believe of texts and the event key, from the ground up.
-- Assumes nothing.
pub mod Text
pub mod Members
pub mod Search
pub mod Key
pub mod Numbers
pub mod Over
pub mod Inside
