pub mod Answer
pub mod Call
pub mod Explaining
pub mod Part
pub mod Plan
pub mod Shared
pub mod Version
