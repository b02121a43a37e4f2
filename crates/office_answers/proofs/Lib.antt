pub mod Applied
pub mod Brought
pub mod Entries
pub mod Decided
pub mod Looked
pub mod Owed
pub mod Ranges
pub mod TermDays
