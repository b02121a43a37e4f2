pub mod BookText
pub mod ReviewSheet
pub mod BookSheet
