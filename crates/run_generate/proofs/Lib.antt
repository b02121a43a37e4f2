pub mod Founding
pub mod Counts
pub mod Paid
pub mod BookRows
