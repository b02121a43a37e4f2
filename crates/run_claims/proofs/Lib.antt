pub mod Office
pub mod BookRanges
pub mod FilingRanges
pub mod KeptBooks
pub mod KeptBytes
pub mod KeptFilings
pub mod Ranges
pub mod RowLaws
pub mod Texts
pub mod Admitted
pub mod ByKind
pub mod SpelledLines
pub mod Facts
pub mod Lines
pub mod Tests
mod AfterRuns
