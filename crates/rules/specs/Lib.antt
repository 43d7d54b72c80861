-- What judging a file leaves, and working definitions for the crate's own functions; the meaning of what is judged stands in
-- crates/rules_definitions/specs.
-- Assumes nothing.
pub mod Judged
pub mod Inside
pub mod Under
pub mod Walk
pub mod Advance
pub mod Questions
pub mod Room
pub mod Turned
pub mod Look
pub mod Fields
-- Of the crates below: what the rules, blocks and findings are, and the index of blocks
pub use Rattle.rules_definitions.specs.Forms
pub use Rattle.rules_definitions.specs.Contexts
pub use Rattle.rules_definitions.specs.Blocks
pub use Rattle.rules_definitions.specs.Seen
pub use Rattle.rules_definitions.specs.Codes
pub use Rattle.rules_definitions.specs.Rules
pub use Rattle.rules_definitions.specs.Findings
pub use Rattle.rules_definitions.specs.Claims
pub use Rattle.rules_definitions.specs.FileE
pub use Rattle.rules_walk.specs.Firsts
