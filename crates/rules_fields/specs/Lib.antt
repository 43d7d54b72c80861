-- What the functions on the rules at a field answer; the rules themselves stand in crates/rules_definitions/specs.
-- Assumes nothing.
pub mod Fields
