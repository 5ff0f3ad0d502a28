-- The definitions that the contracts of a count with rows name.
pub mod Gains
pub mod Plays
pub mod Steps
pub mod Laws
pub mod Seats
pub mod Ending
pub mod Calls
