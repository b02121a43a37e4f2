pub mod Kept
pub mod Lines
pub mod Names
pub mod RowLaws
pub mod Rows
pub mod Ruled
pub mod RuledLaws
pub mod Ruling
