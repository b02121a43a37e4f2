pub mod AddsUp
pub mod Changes
pub mod Funds
pub mod Register
pub mod Rows
pub mod Rules
