pub mod Answers
pub mod Findings
pub mod Laws
pub mod Lists
pub mod Runs
pub mod Steps
pub mod Words
