-- The plan file's reader (document 01, "Plan blocks"; document 02, A2 and A4): what it answers and leaves, for every input.

-- ---- What the documents say
pub mod Read
-- ---- What the inner functions promise each other
pub mod inner
