-- The rules at a field that asks neither book nor ledger, by its text.
-- Assumes nothing.
pub mod PlainFields
