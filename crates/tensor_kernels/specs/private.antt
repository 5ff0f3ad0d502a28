-- Definitions that only this crate's private clauses and proofs cite.
pub mod Cells
pub mod PackedChunks
pub mod PairedBands
pub mod Pairs
pub mod Quartering
pub mod Strassen
pub mod Tiles
