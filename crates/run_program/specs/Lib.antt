pub mod Performed
pub mod Requests
