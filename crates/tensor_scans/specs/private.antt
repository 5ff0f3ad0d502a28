-- What only this crate's private clauses and proofs cite.
pub mod Firsts
pub mod Rows
