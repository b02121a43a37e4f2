pub mod Laws
pub mod Amounts
pub mod Behind
pub mod Chain
pub mod Equal
pub mod InRange
pub mod Plain
pub mod RowsOf
