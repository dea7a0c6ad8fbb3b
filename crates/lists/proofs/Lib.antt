-- The laws that every crate shares.
pub mod Bools
pub mod Numbers
pub mod Refusals
pub mod Sums
pub mod Totals
pub mod Alls
pub mod Bests
pub mod Fills
pub mod Tables
pub mod Differences
pub mod Orders
pub mod Smallests
