-- Fiduccia-Mattheyses between two parts: run, entry, demand 3 and counts (document 01, "FM").

-- ---- What document 01 says
pub mod Run
pub mod Entry
pub mod Demand
pub mod Counts
pub mod Rules
pub mod Used
-- ---- What the inner functions promise each other
pub mod inner
