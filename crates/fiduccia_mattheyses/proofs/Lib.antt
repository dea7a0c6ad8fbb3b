-- The laws of the run, and the machine-made walks of the functions over lists of move records.
pub mod Running
pub mod Entering
pub mod Unique
pub mod Results
pub mod Earliest
pub mod Least
pub mod States
pub mod Boards
pub mod Single
pub mod Counts
pub mod Demands
pub mod Promised
pub mod MoveLimits
pub mod Refusals
pub mod Unused
