-- The run and the call of Kernighan-Lin (document 01, "KL").

-- ---- What document 01 says
pub mod Run
pub mod Entry
pub mod Rules
-- ---- What the inner functions promise each other
pub mod inner
