-- The eight-block grid: its ten rows as one statement, and the self-test (document 01, "The eight-block grid").

-- ---- What document 01 says: the contracts of inner functions need no more
pub mod Inputs
pub mod TenRows
pub mod SelfTest
