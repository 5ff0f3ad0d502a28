pub mod Counts
pub mod Crews
pub mod Lists
pub mod Programs
pub mod Trees
