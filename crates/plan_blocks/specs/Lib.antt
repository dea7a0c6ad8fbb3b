-- The plan file (document 01, "Plan blocks"; document 02, A2 and A4): what a plan is, the bytes that stand for it, and the plan that bytes hold.

-- ---- What the documents say: the contracts of inner functions need no more
pub mod Word
pub mod Block
pub mod Kind
pub mod Plan
pub mod Encode
pub mod Decode
-- ---- What document 02's A2 says of old files and of blocks that changed places
pub mod Old
pub mod Exchanged
