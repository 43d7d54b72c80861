pub mod FindingLaws
pub mod AreaLaws
pub mod EventLaws
pub mod BlockLaws
pub mod CleanLaws
mod SiteLaws
pub mod EdgesLaws
