-- Two vertices moved by hand, and what that does to the cut (document 02, A9).

-- ---- What document 02 says: there are no inner functions
pub mod Exchange
