pub mod Runs
pub mod Sheets
pub mod Words
