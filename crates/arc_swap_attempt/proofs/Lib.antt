-- The laws of an attempt: the sixteen sums of a row, the best part, the trial, the stack, a move.
pub mod Rowsums
pub mod Aims
pub mod Tried
pub mod Stacks
pub mod Pushes
pub mod Moving
