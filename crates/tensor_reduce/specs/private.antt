-- Definitions that only this crate's private clauses and proofs cite.
pub mod Batches
pub mod Combined
pub mod Cutting
pub mod Fusing
pub mod Held
pub mod Next
pub mod Readers
pub mod Schedules
pub mod Stage
pub mod Worth
