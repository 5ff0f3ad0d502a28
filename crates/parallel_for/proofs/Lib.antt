pub mod Runs
pub mod Cutting
pub mod Rows
pub mod Moves
pub mod Outs
pub mod Covering
