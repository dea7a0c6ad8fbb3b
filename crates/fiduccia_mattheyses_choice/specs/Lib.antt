-- Which vertex FM moves next, and what the functions of the scan say (document 01, "FM").

-- ---- What document 01 says
pub mod Choice
-- ---- What the inner functions promise each other
pub mod inner
