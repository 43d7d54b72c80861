pub mod Lines
pub mod Marks
pub mod Inside
