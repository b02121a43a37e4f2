pub mod LinesLaws
pub mod Sums
pub mod IncomeLaws
pub mod IndexLaws
pub mod NearestOrder
pub mod ScheduleRises
