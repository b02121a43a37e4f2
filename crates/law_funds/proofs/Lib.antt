pub mod Ordered
pub mod Rounded
