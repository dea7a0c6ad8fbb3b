-- The moves of an FM pass: what a pass does, and what the pass's functions say (document 01, "FM").

-- ---- What document 01 says
pub mod Pass
-- ---- What the inner functions promise each other
pub mod inner
