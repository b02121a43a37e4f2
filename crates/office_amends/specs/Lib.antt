pub mod Amended
pub mod Changes
pub mod Gathered
pub mod Lines
pub mod Plans
pub mod Rows
pub mod Stood
pub mod Texts
