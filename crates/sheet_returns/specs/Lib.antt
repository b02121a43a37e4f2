pub mod Before
pub mod Due
pub mod Lines
pub mod Returns
pub mod Sendings
pub mod Withdrawals
