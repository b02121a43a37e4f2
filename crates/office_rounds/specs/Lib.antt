pub mod Candidates
pub mod Fund
pub mod Payments
pub mod Planned
