pub mod Brought
pub mod Noted
pub mod Walked
