pub mod Apart
pub mod Looks
pub mod Placed
pub mod Sorted
pub mod Woven
