pub mod Chain
pub mod Folds
pub mod Loops
pub mod Putting
pub mod private
pub mod Tiles
