pub mod Clock
pub mod Fields
pub mod Lines
pub mod Rows
