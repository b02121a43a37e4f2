pub mod Counts
pub mod Ends
pub mod Lists
pub mod Puts
pub mod Statuses
