-- The definitions that every crate shares. No rule of document 01 stands here.

-- ---- What the definitions of document 01 are written in: the contracts of inner functions need no more
pub mod Sum
pub mod All
pub mod Best
pub mod Fill
pub mod Number
pub mod Refusal
pub mod End
pub mod Smallest
