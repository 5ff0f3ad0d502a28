pub mod Bound
pub mod Dims
pub mod Found
pub mod Parts
pub mod Plans
pub mod Planned
