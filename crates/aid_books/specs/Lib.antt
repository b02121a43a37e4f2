pub mod Ages
pub mod BySize
pub mod Marginal
pub mod RowAt
pub mod ValidBook
