-- The graph in rows, its rules, cuts and gains (document 01, "The graph and its numbers").

-- ---- What document 01 says
pub mod Graph
pub mod Given
pub mod Rule
pub mod Cut
pub mod Number
pub mod EightBlockGrid
pub mod Rules
pub mod Coupe
-- ---- What the inner functions promise each other
pub mod inner
