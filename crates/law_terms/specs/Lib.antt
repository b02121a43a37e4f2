pub mod CivilDays
pub mod DayText
pub mod Days
pub mod Terms
pub mod Used
