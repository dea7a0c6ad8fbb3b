-- The laws of the reader and the writer together.
pub mod LegalPlans
pub mod Trips
