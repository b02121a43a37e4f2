pub mod Copies
pub mod CopyLaws
pub mod RanDesks
pub mod Moments
pub mod Ran
pub mod Rounds
pub mod Texts
