-- Arc-swap: attempt after attempt, vertex after vertex, pass after pass; the call (document 01, "Arc-swap").

-- ---- What document 01 says
pub mod Run
pub mod Entry
pub mod Demand
pub mod Rules
pub mod Used
-- ---- What the inner functions promise each other
pub mod inner
