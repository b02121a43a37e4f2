pub mod DueOrder
pub mod Passes
