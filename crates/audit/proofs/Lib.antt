pub mod Against
pub mod Causes
pub mod Exports
pub mod Fronts
pub mod Held
pub mod Lengths
pub mod Notes
mod Ran
pub mod Ranges
pub mod Runs
pub mod SealedLists
pub mod Stood
pub mod Taken
pub mod Walk
