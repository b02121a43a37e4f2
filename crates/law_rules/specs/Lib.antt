pub mod InRange
pub mod Rules
pub mod Lines
pub mod Quote
pub mod QuoteLimits
