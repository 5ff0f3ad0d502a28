-- Definitions that only the private clauses and the proofs of this crate cite.
pub mod Held
pub mod Kept
pub mod Known
pub mod Laws
pub mod Left
pub mod Parting
pub mod Pieces
pub mod Taking
