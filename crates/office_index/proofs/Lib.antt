mod AnswerLaws
mod AtPosition
mod Digits
mod IndexGrown
mod Looked
mod NetTold
mod NoRows
mod OtherRules
mod OutcomeAwards
mod Quoted
mod RowsFound
mod RowsWritten
mod StandingLemmas
mod Unpaid
pub mod EnrolledFirst
mod Found
pub mod OnRecord
