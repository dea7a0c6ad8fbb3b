-- Loads and ceilings (document 01, "The graph and its numbers").

-- ---- What document 01 says
pub mod Limit
pub mod Load
pub mod Ceiling
pub mod Number
pub mod Rules
pub mod Used
-- ---- What the inner functions promise each other
pub mod inner
