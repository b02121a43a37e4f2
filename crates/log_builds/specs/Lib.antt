pub mod Built
pub mod Entries
pub mod Laid
