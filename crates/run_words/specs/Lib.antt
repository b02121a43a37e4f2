pub mod Behind
pub mod Stamped
pub mod Words
