pub mod Tickets
pub mod Credits
pub mod Seats
pub mod Points
pub mod Laws
