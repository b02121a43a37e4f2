pub mod Fates
pub mod Faults
pub mod Histories
pub mod Images
pub mod NoFault
pub mod OneFault
pub mod Openings
pub mod Sound
