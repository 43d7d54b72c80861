-- What the functions on texts and on the fields of a line answer beside the rules' own definitions.
-- Assumes nothing.
pub mod Classes
pub mod TextLeaves
pub mod FieldLeaves
