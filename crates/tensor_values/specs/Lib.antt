pub mod Combining
pub mod Division
pub mod Scalars
pub mod Interleaving
pub mod Values
pub mod private
