pub mod Payments
pub mod Laws
pub mod Drawn
pub mod Rows
pub mod Left
pub mod Counted
pub mod Texts
