pub mod NamesChanged
pub mod PlacesAfter
pub mod RowNames
pub mod SchoolYearsAfter
pub mod SchoolsAfter
pub mod StudentUse
pub mod YearFilings
pub mod YearMoves
pub mod YearNames
pub mod EnrollmentsFirst
mod EnrollmentsLeast
mod EnrollmentsRows
mod EnrollmentsTerms
mod EnrollmentsWalk
mod LinksChain
mod LinksFound
mod LinksMore
mod LinksTerms
