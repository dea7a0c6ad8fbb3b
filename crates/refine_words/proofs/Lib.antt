-- The laws of texts that are put together, and of numbers in decimal.
pub mod Texts
