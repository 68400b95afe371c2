pub mod Limits
pub mod Costs
pub mod Spacing
