pub mod Coprimes
pub mod Partition
pub mod Walk
