pub mod Dealing
pub mod Lists
pub mod Made
pub mod Numbers
pub mod TermLists
pub mod Trees
