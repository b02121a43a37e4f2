pub mod Built
pub mod Compared
pub mod Ended
pub mod Made
