pub mod AllowedAddsUp
pub mod Covered
mod Funds
mod Grown
pub mod Holders
pub mod Holding
pub mod SameWork
pub mod Small
pub mod Standing
pub mod Sums
pub mod There
pub mod Within
