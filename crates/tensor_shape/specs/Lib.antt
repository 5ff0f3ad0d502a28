pub mod Faults
pub mod Index
pub mod Legal
pub mod Wrap
