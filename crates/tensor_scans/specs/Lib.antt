pub mod Lines
pub mod Places
pub mod Progress
pub mod private
