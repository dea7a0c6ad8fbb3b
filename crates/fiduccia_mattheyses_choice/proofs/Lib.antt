-- The laws of the choice and of the scan that makes it.
pub mod Beats
pub mod Looks
pub mod Scans
pub mod Chosen
