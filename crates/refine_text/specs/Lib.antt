-- What the refine program prints, as a definition of its input (document 01, the end of "The eight-block grid").

-- ---- What document 01 says: the contracts of inner functions need no more
pub mod Refine
