pub mod Applicants
pub mod Exports
pub mod Forms
pub mod InOrder
pub mod Lines
pub mod Said
pub mod Seals
pub mod Told
