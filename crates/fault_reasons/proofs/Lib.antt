pub mod Faults
pub mod Indices
