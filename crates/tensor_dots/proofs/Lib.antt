pub mod HalfLanes
pub mod HalfProducts
pub mod HalfWords
pub mod LaneSums
pub mod ListWrites
pub mod Parts
pub mod ProductSums
pub mod SimdLanes
