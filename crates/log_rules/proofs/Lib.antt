mod Few
pub mod Places
mod Grown
mod Positions
mod Stays
mod Told
