pub mod Numbers
pub mod Parts
pub mod Spelling
pub mod Stamped
pub mod Taking
