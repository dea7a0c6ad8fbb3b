-- An attempt of arc-swap: the part that a vertex is tried for, what comes of it, and what is pushed after a move (document 01, "Arc-swap").

-- ---- What document 01 says
pub mod Trial
-- ---- What the inner functions promise each other
pub mod inner
