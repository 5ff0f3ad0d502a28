pub mod Explained
pub mod Pointer
