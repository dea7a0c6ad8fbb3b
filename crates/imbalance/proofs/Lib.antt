-- The laws of loads and ceilings.
pub mod Limits
pub mod PartLoads
pub mod Largest
pub mod Choices
pub mod Bound
pub mod Patterns
pub mod Rows
pub mod Unique
pub mod Refusals
pub mod Unused
