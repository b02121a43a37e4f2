pub mod Notes
pub mod Shares
pub mod Answered
pub mod Rows
pub mod Desks
pub mod DeskTexts
pub use Rattle.log_machine.specs.Submits
pub use Rattle.log_lock.specs.Passes
