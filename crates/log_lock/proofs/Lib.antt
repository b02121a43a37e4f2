pub mod Lists
pub mod Goings
pub mod Accounting
pub mod Steps
pub mod Learning
pub mod Laws
