-- The steps of counts with rows.
pub mod Counting
pub mod Committing
pub mod Hearing
pub mod Aside
pub mod Events
pub mod Publishing
pub mod Passing
pub mod Banking
pub mod Tokens
pub mod Present
pub mod Stopping
pub mod Keeping
