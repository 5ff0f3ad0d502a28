-- Definitions that only this crate's private clauses and proofs cite.
pub mod Behind
pub mod Counted
pub mod Known
pub mod Numbers
pub mod Outcome
pub mod Shown
pub mod Version
pub mod Walked
