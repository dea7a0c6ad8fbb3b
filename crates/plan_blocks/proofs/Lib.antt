-- The laws of words, blocks and plans.
pub mod Bits
pub mod WordLaws
pub mod Places
pub mod BlockKinds
pub mod Accepts
pub mod Headers
pub mod HeaderCounts
pub mod Rewritten
pub mod Reread
pub mod OldFiles
pub mod Changed
pub mod Exchanges
pub mod RoundTrips
