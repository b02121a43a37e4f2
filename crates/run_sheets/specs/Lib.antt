pub mod Runs
pub mod SealLaws
pub mod Texts
pub mod Totals
pub mod Words
