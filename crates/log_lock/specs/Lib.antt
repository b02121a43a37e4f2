pub mod Turning
pub mod Passes
pub mod Views
pub mod Rule
