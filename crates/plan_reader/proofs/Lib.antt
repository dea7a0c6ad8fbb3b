-- The laws of the reader.
pub mod ReadLaws
pub mod ReadEntry
pub mod Unique
