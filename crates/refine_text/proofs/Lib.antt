-- The laws of the program's text: the input's number, the lists that the reader hands over, and the runs.
pub mod Judged
pub mod Handed
pub mod Shown
pub mod Grid
pub mod Unique
