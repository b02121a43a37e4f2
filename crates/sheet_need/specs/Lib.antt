pub mod Need
pub mod NeedEntries
pub mod NeedLines
pub mod NeedSheet
pub mod NeedSums
pub mod NeedWords
