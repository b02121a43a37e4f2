pub mod DeskTexts
pub mod Names
pub mod Reads
pub mod DesksDone
pub mod RanDesksOn
