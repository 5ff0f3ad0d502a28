-- Definitions that only this crate's private clauses and proofs cite.
pub mod MovedAxes
pub mod Tracing
