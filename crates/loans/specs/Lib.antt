pub mod Kinds
pub mod Numbers
pub mod Outcomes
pub mod Parts
pub mod Ruling
pub mod Same
