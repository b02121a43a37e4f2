pub mod Amendments
pub mod Comparisons
pub mod Ends
pub mod Targets
pub mod Upgrades
