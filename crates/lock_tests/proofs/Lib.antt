pub mod Counted
pub mod Dealing
