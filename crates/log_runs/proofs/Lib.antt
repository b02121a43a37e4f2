pub mod EndLaws
pub mod Excused
pub mod ListImages
pub mod Puts
pub mod Shown
