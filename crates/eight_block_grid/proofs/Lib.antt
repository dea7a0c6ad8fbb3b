-- The ten rows, computed; what the calls promise is what the self-test compares; and no row differs.
pub mod Cuts
pub mod FMRuns
pub mod KLRuns
pub mod SwapRuns
pub mod Rows
pub mod Alikes
pub mod Gives
pub mod Holds
pub mod Unique
