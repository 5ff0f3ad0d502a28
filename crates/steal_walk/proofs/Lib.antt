pub mod Bezout
pub mod Coprime
pub mod Cycle
pub mod Listed
pub mod Visits
