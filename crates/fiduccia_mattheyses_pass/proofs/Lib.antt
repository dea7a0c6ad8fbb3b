-- The laws of a pass and its moves.
pub mod Moved
pub mod Updates
pub mod Follows
pub mod Worths
pub mod Choices
pub mod Stands
pub mod Backs
pub mod FlipsAsSums
pub mod Walks
pub mod Keeps
pub mod MoveLimits
pub mod Zeros
pub mod Walking
pub mod Rewinding
pub mod Passing
