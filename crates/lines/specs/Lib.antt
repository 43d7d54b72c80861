pub mod Records
pub mod Shape
pub mod Inside
-- Of the crates below: lines and fields, and the events of lines
pub use Rattle.lines_fields.specs.Lines
pub use Rattle.lines_fields.specs.Marks
pub use Rattle.lines_places.specs.Events
pub use Rattle.lines_places.specs.Sorted
