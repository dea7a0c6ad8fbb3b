-- The laws of the writer.
pub mod Puts
pub mod Blocks
pub mod WriteTurns
pub mod WriteTests
pub mod WriteEntry
pub mod Unique
pub mod Unused
