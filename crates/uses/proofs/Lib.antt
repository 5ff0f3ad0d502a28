pub mod Counts
pub mod Heights
pub mod Maps
pub mod Rounds
pub mod Sums
