pub mod Interface
pub mod Passing
pub mod Inside
pub mod CDemands
