-- The laws of a graph in rows, of its cuts and of a move.
pub mod Starts
pub mod Rises
pub mod Rules
pub mod Lookups
pub mod Numbers
pub mod Digits
pub mod Arounds
pub mod RowWalks
pub mod GainSums
pub mod Pairs
pub mod Moves
pub mod Gains
pub mod Unique
pub mod EqualOpposites
pub mod CoupesWords
pub mod Refusals
