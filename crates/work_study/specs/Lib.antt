pub mod Kinds
pub mod Numbers
pub mod Outcomes
pub mod Ruling
pub mod Same
