pub mod Household
pub mod Lines
pub mod Fits
pub mod Formulas
pub mod Income
pub mod Index
pub mod Indices
