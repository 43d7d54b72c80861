pub mod Events
pub mod Sorted
pub mod Inside
