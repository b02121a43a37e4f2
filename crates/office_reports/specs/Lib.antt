pub mod Before
pub mod Columns
pub mod Lines
pub mod Reports
pub mod Rows
pub mod Seals
