-- Laws of a pass of KL, by subject.
pub mod Sizes
pub mod Bits
pub mod Updates
pub mod Choices
pub mod Within
pub mod Pairs
pub mod Swaps
pub mod Backs
pub mod Walks
