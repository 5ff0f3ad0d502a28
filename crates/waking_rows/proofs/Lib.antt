mod Jobs
mod Lists
mod Opened
mod Passes
mod Puts
