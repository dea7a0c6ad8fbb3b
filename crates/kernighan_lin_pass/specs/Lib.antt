-- A pass of Kernighan-Lin between two parts (document 01, "KL").

-- ---- What document 01 says
pub mod Gain
pub mod Pass
-- ---- What the inner functions promise each other
pub mod inner
