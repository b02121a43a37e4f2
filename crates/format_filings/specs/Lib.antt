pub mod Rows
pub mod BookLines
pub mod BookRows
pub mod Replies
pub use Rattle.format_rows.specs.Lines
pub use Rattle.aid_types.specs.Whole
pub mod WrittenRows
pub mod Spelled
