pub mod DayLemmas
pub mod DayTextLaws
pub mod DayTexts
pub mod TermDays
pub mod Cents
