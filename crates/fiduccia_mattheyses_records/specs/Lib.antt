-- FM with a list of move records of its own (document 01, "FM").

-- ---- What document 01 says: the contracts of inner functions need no more
pub mod Own
