pub mod ReturnEntries
pub mod ReturnLines
pub mod ReturnSheet
pub mod ReturnSums
pub mod ReturnWords
