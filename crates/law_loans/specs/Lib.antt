pub mod Changes
pub mod Loans
pub mod Ranges
pub mod Register
pub mod Rows
pub mod Rules
pub mod Within
