-- The plan file's writer (document 01, "Plan blocks"; document 02, A2 and A4): what it answers and leaves, for every input.

-- ---- What the documents say
pub mod Write
pub mod Used
-- ---- What the inner functions promise each other
pub mod inner
