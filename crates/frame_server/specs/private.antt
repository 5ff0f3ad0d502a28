-- Definitions that only the private clauses and the proofs of this crate cite.
pub mod Answering
pub mod Laws
pub mod Parting
pub mod Taking
