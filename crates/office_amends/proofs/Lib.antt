pub mod Fields
pub mod Gathering
pub mod Keys
pub mod Places
pub mod Planned
pub mod Steps
pub mod Whole
