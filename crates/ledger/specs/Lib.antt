pub mod Ledger
pub mod Updates
pub mod Inside
