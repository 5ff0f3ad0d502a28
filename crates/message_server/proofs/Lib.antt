pub mod Streams
pub mod Histories
pub mod Notes
pub mod Takings
pub mod Serving
