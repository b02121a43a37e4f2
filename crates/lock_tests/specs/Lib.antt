pub mod Counts
pub mod Desks
