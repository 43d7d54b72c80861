-- What a reader must believe of blanks at the ends of a text.
-- Assumes nothing.
pub mod Blanks
pub mod Inside
