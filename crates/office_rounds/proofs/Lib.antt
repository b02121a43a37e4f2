pub mod InLine
pub mod OneList
pub mod Fitting
pub mod Originations
pub mod Gathered
pub mod Grants
pub mod Paying
pub mod Within
