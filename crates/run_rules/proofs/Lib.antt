pub mod FileRuns
pub mod Keeps
