pub mod Account
pub mod Bag
pub mod Elements
mod Grid
pub mod Laws
pub mod Lengths
pub mod Limits
pub mod Plays
pub mod Positions
pub mod Reserves
pub mod RowTable
pub mod SlotSeats
pub mod Views
