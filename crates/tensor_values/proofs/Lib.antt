pub mod Factors
pub mod Floors
pub mod InTurns
pub mod Rests
pub mod Runs
pub mod Shifts
