-- Laws of the run and the call of KL, by subject.
pub mod Running
pub mod Entering
pub mod Unique
pub mod Keeps
pub mod Ends
pub mod Rewinding
pub mod Bounds
pub mod TwoLabels
pub mod Refusals
