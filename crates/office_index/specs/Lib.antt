pub mod Digits
pub mod Index
pub mod Register
pub mod WalkedFor
pub use Rattle.office_history.specs.Answer
pub use Rattle.office_history.specs.Past
