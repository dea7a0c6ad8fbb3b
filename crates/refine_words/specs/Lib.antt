-- The refine program's words, numbers and lines as bytes (document 01, the end of "The eight-block grid").

-- ---- What document 01 says
pub mod Text
pub mod Line
-- ---- What the inner functions promise each other
pub mod inner
