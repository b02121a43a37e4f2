pub mod Faults
pub mod Moved
pub mod Whole
pub mod Silent
pub mod DiskState
