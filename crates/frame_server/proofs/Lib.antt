pub mod Frames
pub mod Limit
pub mod Parts
pub mod Answering
pub mod Entries
pub mod Serving
pub mod Written
pub mod Unlimited
