-- Definitions that only this crate's private clauses and proofs cite.
pub mod Dealing
pub mod Made
pub mod Told
pub mod ToldAll
