pub mod Calendars
pub mod Students
